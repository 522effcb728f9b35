-- The command line of the program, as `clap` reads it.
use Rattle.std.specs.Prelude.{[], ◌∷◌, Some, true, codes}
use Rattle.clap.specs.Words.{App, Rule, Text, new_app, new_rule, with_rule, with_subcommand}
use Rattle.clap.specs.declared.builder.action.ArgAction.TheVariants.{Append, SetTrue}
use Rattle.clap.specs.declared.builder.value_parser.ValueParser.TheVariants.{Unsigned}

-- the command `esr`, with a version, which needs one of its subcommands
abbrev pub esr : App
esr =
    let plain = new_app (codes "esr") in
    record plain { top = record plain.top { has_version = true; subcommand_required = true } }

abbrev pub steps_rule : Rule
steps_rule = record (new_rule (codes "steps")) { long = Some (codes "steps"); action = Some SetTrue }

abbrev pub prose_rule : Rule
prose_rule = record (new_rule (codes "prose")) { long = Some (codes "prose"); action = Some SetTrue }

abbrev pub name_rule : Rule
name_rule = record (new_rule (codes "NAME")) { required = true }

-- 1 to 64 workers, and 4 if no number is given
abbrev pub workers_rule : Rule
workers_rule = record (new_rule (codes "workers")) {
  long = Some (codes "workers");
  value_names = 1;
  parser = Some (Unsigned 1 64);
  defaults = codes "4" ∷ [];
}

-- 1 to 64 queries shown in full, and 10 if no number is given
abbrev pub worst_rule : Rule
worst_rule = record (new_rule (codes "worst")) {
  long = Some (codes "worst");
  value_names = 1;
  parser = Some (Unsigned 1 64);
  defaults = codes "10" ∷ [];
}

-- the number of interleavings, unless all are run
abbrev pub seeds_rule : Rule
seeds_rule = record (new_rule (codes "seeds")) {
  long = Some (codes "seeds");
  value_names = 1;
  parser = Some (Unsigned 1 100000);
}

abbrev pub all_rule : Rule
all_rule = record (new_rule (codes "all")) { long = Some (codes "all"); action = Some SetTrue }

-- the measure of the worst interleaving
abbrev pub worst_by_rule : Rule
worst_by_rule = record (new_rule (codes "worst")) { long = Some (codes "worst"); value_names = 1 }

abbrev pub as_script_rule : Rule
as_script_rule = record (new_rule (codes "as-script")) { long = Some (codes "as-script"); action = Some SetTrue }

abbrev pub bail_rule : Rule
bail_rule = record (new_rule (codes "bail")) { long = Some (codes "bail"); action = Some SetTrue }

abbrev pub progress_rule : Rule
progress_rule = record (new_rule (codes "progress")) { long = Some (codes "progress"); action = Some SetTrue }

abbrev pub no_progress_rule : Rule
no_progress_rule =
    record (new_rule (codes "no-progress")) { long = Some (codes "no-progress"); action = Some SetTrue }

-- text if no format is named
abbrev pub format_rule : Rule
format_rule = record (new_rule (codes "format")) {
  long = Some (codes "format");
  value_names = 1;
  defaults = codes "text" ∷ [];
}

abbrev pub script_rule : Rule
script_rule = record (new_rule (codes "script")) { long = Some (codes "script"); value_names = 1 }

abbrev pub query_rule : Rule
query_rule = record (new_rule (codes "query")) { long = Some (codes "query"); value_names = 1 }

abbrev pub verbose_rule : Rule
verbose_rule = record (new_rule (codes "verbose")) { long = Some (codes "verbose"); action = Some SetTrue }

-- the optional name of a transaction
abbrev pub of_rule : Rule
of_rule = new_rule (codes "NAME")

-- the distance that a smaller script keeps
abbrev pub at_least_rule : Rule
at_least_rule = record (new_rule (codes "at-least")) {
  long = Some (codes "at-least");
  value_names = 1;
  parser = Some (Unsigned 1 1000000000000000000);
}

abbrev pub file_rule : Rule
file_rule = new_rule (codes "FILE")

-- several files
abbrev pub files_rule : Rule
files_rule = record (new_rule (codes "FILE")) { action = Some Append }

-- a subcommand that reads a file
abbrev pub with_file : App → App
with_file a = with_rule a file_rule

-- one that reads a script
abbrev pub with_script : App → App
with_script a = with_rule (with_rule (with_rule (with_file a) bail_rule) progress_rule) no_progress_rule

-- a subcommand that shows one query of a script
abbrev pub query_command : Text → App
query_command name = with_script (with_rule (new_app name) name_rule)

abbrev pub certify : App
certify = with_rule (query_command (codes "certify")) steps_rule

abbrev pub explain : App
explain = with_rule (with_rule (query_command (codes "explain")) prose_rule) format_rule

abbrev pub page : App
page = with_rule (with_script (new_app (codes "page"))) worst_rule

abbrev pub audit : App
audit = with_rule (with_rule (with_script (new_app (codes "audit"))) workers_rule) format_rule

abbrev pub drive : App
drive = with_rule (with_rule (with_file (new_app (codes "drive"))) workers_rule) as_script_rule

abbrev pub explore : App
explore =
    with_rule (with_rule (with_rule (with_file (new_app (codes "explore"))) seeds_rule) all_rule) worst_by_rule

abbrev pub lint : App
lint = with_rule (new_app (codes "lint")) files_rule

abbrev pub check : App
check = with_rule (with_rule (with_rule (with_file (new_app (codes "check"))) script_rule) query_rule) verbose_rule

abbrev pub ledger : App
ledger = with_rule (with_script (new_app (codes "ledger"))) format_rule

abbrev pub why : App
why = with_rule (with_script (new_app (codes "why"))) of_rule

abbrev pub timeline : App
timeline = with_rule (with_script (new_app (codes "timeline"))) of_rule

abbrev pub trace : App
trace = with_script (new_app (codes "trace"))

abbrev pub shrink : App
shrink = with_rule (query_command (codes "shrink")) at_least_rule

abbrev pub with_script_commands : App
with_script_commands =
    with_subcommand (with_subcommand (with_subcommand esr (with_script (new_app (codes "run"))).top) certify.top)
    check.top

abbrev pub with_query_commands : App
with_query_commands =
    with_subcommand (with_subcommand (with_subcommand with_script_commands explain.top) (query_command (codes "picture")).top) page.top

abbrev pub with_account_commands : App
with_account_commands = with_subcommand (with_subcommand with_query_commands ledger.top) why.top

abbrev pub with_diagnosis_commands : App
with_diagnosis_commands = with_subcommand (with_subcommand (with_subcommand with_account_commands timeline.top) trace.top) shrink.top

abbrev pub program : App
program =
    with_subcommand (with_subcommand (with_subcommand (with_subcommand with_diagnosis_commands audit.top) drive.top) explore.top)
    lint.top
