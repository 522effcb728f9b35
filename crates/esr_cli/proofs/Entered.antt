-- The arguments after the name of a subcommand are left to it, so their faults are computed from that subcommand
-- alone, and not from all at once.
use Rattle.std.proofs.Common.{◌≡◌, ◌∙◌, ap, ap₂, sym, refl, fold, codes, List, [], ◌∷◌, Option, Some, is_some, find, option_map}
use Rattle.std.specs.Option.{option_map_or}
use Rattle.clap.specs.Walk.{Text, Walk, answers_to, finished, nothing_held, settled, walk, walk_from, walked}
use Rattle.clap.specs.Simple.{App, Shape, built, built_leaf, entered, label_of, names_of, rows_at, subcommand_of}
use Rattle.clap.specs.Kinds.{Kinds, or_else}
use Rattle.clap.specs.Faults.{check_fault, defaults_fault, entered_fault, fault_of, settle_fault, turn_fault, walk_fault}
use Rattle.clap.proofs.FaultLemmas.{stopped_fault}
use Rattle.clap.proofs.WalkLemmas.{walk_stopped}
use Rattle.clap.proofs.OnLiterals.{clap_on_literals}
use Rattle.clap.specs.Words.{new_app}
use Rattle.esr_cli.proofs.WalksTo.{own_fault}
use Rattle.esr_cli.specs.ArgumentRules as spec
use Rattle.esr_cli.specs.ArgumentRules.{program}

abbrev shell : App
shell = built program

abbrev start : Walk
start = walk_from nothing_held

-- the walk after the name of a subcommand, with these arguments left to it
abbrev left_to : Text → List Text → Walk
left_to word rest = record start { stopped = Some (word, rest) }

-- the word is the name of this subcommand
pub record IsNameOf (word : Text) (s : Shape) : Type 0 where
  pub met : walked shell.top.rules (names_of shell) start word ≡ left_to word []
  pub fine : turn_fault shell.top (names_of shell) start word ≡ []
  pub found : find (λ s. answers_to word (label_of s)) shell.subs ≡ Some s

or_nothing : (a : Kinds) → or_else a [] ≡ a
or_nothing [] = refl
or_nothing (k ∷ ks) = refl

walk_of_rest : (word : Text) (s : Shape) (rest : List Text) → IsNameOf word s → walk shell.top.rules (names_of shell) nothing_held (word ∷ rest) ≡ left_to word rest
walk_of_rest word s rest is =
    ap (λ (w : Walk). fold (walked shell.top.rules (names_of shell)) w rest) is.met
    ∙ sym (walk_stopped shell.top.rules (names_of shell) start word [] rest)

turns_of_rest : (word : Text) (s : Shape) (rest : List Text) → IsNameOf word s → walk_fault shell.top (names_of shell) start (word ∷ rest) ≡ []
unfolding walk_fault
turns_of_rest word s rest is =
    ap₂ (λ (k : Kinds) (w : Walk). or_else k (walk_fault shell.top (names_of shell) w rest)) is.fine is.met
    ∙ stopped_fault shell.top (names_of shell) start (word, []) rest

-- the faults of a walk that stopped there, whose turns had these faults
abbrev found_of_walk : Walk → Kinds → Kinds
found_of_walk w turns =
    or_else turns (or_else (entered_fault shell w.stopped) (or_else (settle_fault shell.top.rules shell.top.args_override_self w.held)
    (or_else (defaults_fault (settled shell.top.rules w.held).rows shell.top.rules)
    (check_fault shell.top (finished shell.top.rules w.held) (is_some (entered shell w.stopped))))))

-- the faults after a name, if this subcommand is found
abbrev found_of_subcommand : List Text → Option Shape → Kinds
found_of_subcommand rest o =
    or_else (option_map_or (λ s. own_fault s rest) o []) (or_else (settle_fault shell.top.rules shell.top.args_override_self nothing_held)
    (or_else (defaults_fault (settled shell.top.rules nothing_held).rows shell.top.rules)
    (check_fault shell.top (finished shell.top.rules nothing_held) (is_some (option_map (λ s. rows_at s rest) o)))))

nothing_more : (s : Shape) (rest : List Text) → found_of_subcommand rest (Some s) ≡ own_fault s rest
unfolding clap_on_literals
nothing_more s rest = or_nothing (own_fault s rest)

pub fault_of_rest : (name word : Text) (s : Shape) (rest : List Text) → IsNameOf word s → fault_of program (name ∷ word ∷ rest) ≡ own_fault s rest
fault_of_rest name word s rest is =
    ap₂ found_of_walk (walk_of_rest word s rest is) (turns_of_rest word s rest is)
    ∙ ap (found_of_subcommand rest) is.found
    ∙ nothing_more s rest

pub rows_of_rest : (name word : Text) (s : Shape) (rest : List Text) → IsNameOf word s → subcommand_of program (name ∷ word ∷ rest) ≡ Some (rows_at s rest)
rows_of_rest name word s rest is =
    ap (λ (w : Walk). entered shell w.stopped) (walk_of_rest word s rest is)
    ∙ ap (λ (o : Option Shape). option_map (λ s. rows_at s rest) o) is.found

abbrev pub run_shape : Shape
run_shape = built_leaf (spec.with_script (new_app (codes "run"))).top

abbrev pub picture_shape : Shape
picture_shape = built_leaf (spec.query_command (codes "picture")).top

abbrev pub certify_shape : Shape
certify_shape = built_leaf spec.certify.top

abbrev pub check_shape : Shape
check_shape = built_leaf spec.check.top

abbrev pub explain_shape : Shape
explain_shape = built_leaf spec.explain.top

abbrev pub page_shape : Shape
page_shape = built_leaf spec.page.top

abbrev pub ledger_shape : Shape
ledger_shape = built_leaf spec.ledger.top

abbrev pub why_shape : Shape
why_shape = built_leaf spec.why.top

abbrev pub timeline_shape : Shape
timeline_shape = built_leaf spec.timeline.top

abbrev pub trace_shape : Shape
trace_shape = built_leaf spec.trace.top

abbrev pub shrink_shape : Shape
shrink_shape = built_leaf spec.shrink.top

abbrev pub audit_shape : Shape
audit_shape = built_leaf spec.audit.top

abbrev pub drive_shape : Shape
drive_shape = built_leaf spec.drive.top

abbrev pub explore_shape : Shape
explore_shape = built_leaf spec.explore.top

abbrev pub lint_shape : Shape
lint_shape = built_leaf spec.lint.top

pub run_is : IsNameOf (codes "run") run_shape
unfolding clap_on_literals
run_is = record { met = refl; fine = refl; found = refl }

pub picture_is : IsNameOf (codes "picture") picture_shape
unfolding clap_on_literals
picture_is = record { met = refl; fine = refl; found = refl }

pub certify_is : IsNameOf (codes "certify") certify_shape
unfolding clap_on_literals
certify_is = record { met = refl; fine = refl; found = refl }

pub check_is : IsNameOf (codes "check") check_shape
unfolding clap_on_literals
check_is = record { met = refl; fine = refl; found = refl }

pub explain_is : IsNameOf (codes "explain") explain_shape
unfolding clap_on_literals
explain_is = record { met = refl; fine = refl; found = refl }

pub page_is : IsNameOf (codes "page") page_shape
unfolding clap_on_literals
page_is = record { met = refl; fine = refl; found = refl }

pub ledger_is : IsNameOf (codes "ledger") ledger_shape
unfolding clap_on_literals
ledger_is = record { met = refl; fine = refl; found = refl }

pub why_is : IsNameOf (codes "why") why_shape
unfolding clap_on_literals
why_is = record { met = refl; fine = refl; found = refl }

pub timeline_is : IsNameOf (codes "timeline") timeline_shape
unfolding clap_on_literals
timeline_is = record { met = refl; fine = refl; found = refl }

pub trace_is : IsNameOf (codes "trace") trace_shape
unfolding clap_on_literals
trace_is = record { met = refl; fine = refl; found = refl }

pub shrink_is : IsNameOf (codes "shrink") shrink_shape
unfolding clap_on_literals
shrink_is = record { met = refl; fine = refl; found = refl }

pub audit_is : IsNameOf (codes "audit") audit_shape
unfolding clap_on_literals
audit_is = record { met = refl; fine = refl; found = refl }

pub drive_is : IsNameOf (codes "drive") drive_shape
unfolding clap_on_literals
drive_is = record { met = refl; fine = refl; found = refl }

pub explore_is : IsNameOf (codes "explore") explore_shape
unfolding clap_on_literals
explore_is = record { met = refl; fine = refl; found = refl }

pub lint_is : IsNameOf (codes "lint") lint_shape
unfolding clap_on_literals
lint_is = record { met = refl; fine = refl; found = refl }
