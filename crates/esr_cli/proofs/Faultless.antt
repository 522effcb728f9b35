-- Arguments in which the program finds no fault.
use Rattle.std.proofs.Common.{◌≡◌, ◌∙◌, ◌≤◌, ◌||◌, ℕ, Bool, cond, codes, not, true, false, refl, sym, ap, subst, List, [], ◌∷◌, Option, Some, None, IsSomeAnd, ⊎_elim, ◌⊎◌, inl, inr, is_some, true≢false, arith, find, length, option_map, bytes_eq}
use Rattle.std.specs.Option.{option_map_or}
use Rattle.clap.proofs.ValueTestLemmas.{Accepts-accepts, accepts-Accepts}
use Rattle.std.specs.Str.Parse.{digits_value, without_leading_plus}
use Rattle.std.proofs.lemmas.Slice.Eq.{bytes_eq-Decides}
use Rattle.clap.specs.Walk.{Row, Rule, Text, answers_to, first_of, nothing_held, one_of, rows_after, settled, finished, values_or_missing, walk, walk_from, with_default}
use Rattle.clap.specs.Simple.{filled, help_rule, with_index, App, HasMatchesOf, Shape, argument_words, built, built_leaf, entered, is_simple, label_of, names_of, rows_at, subcommand_of, subcommand_rows_of}
use Rattle.clap.specs.declared.parser.matches.ArgMatches.{ArgMatches}
use Rattle.clap.specs.declared.builder.value_parser.ValueParser.TheVariants.{Unsigned}
use Rattle.clap.specs.ValueTests.{is_unsigned_in}
use Rattle.clap.specs.Kinds.{Kinds, check_kinds, range_kinds}
use Rattle.clap.specs.Takes.{is_given}
use Rattle.clap.specs.Faults.{check_fault, defaults_fault, entered_fault, fault_of, is_simple_and_free, level_fault, settle_fault, values_fault, walk_fault}
use Rattle.clap.proofs.OnLiterals.{clap_on_literals}
use Rattle.esr_cli.specs.Job as asked
use Rattle.esr_cli.specs.ArgumentRules.{as_script_rule, bail_rule, file_rule, format_rule, name_rule, no_progress_rule, program, progress_rule, query_command, workers_rule, worst_rule}
use Rattle.esr_cli.specs.Job.{HasWorkers, Request, RequestedCommand, flag_in, parsed_number, request_in, request_of, requested, number_option, task_in, requested_command}
use Rattle.esr_cli.specs.declared.Job.{Job}
use Rattle.esr_cli.proofs.Entered.{audit_shape, certify_shape, drive_shape, explain_shape, page_shape, shrink_shape}
use Rattle.esr_cli.proofs.Rows.{HasFirst, IsFit, default_there, first_passes, given_there, has_text, level_good}
use Rattle.esr_cli.proofs.Stops.{StopsElsewhere, first_none, help, then_none, walk_elsewhere}

simple : is_simple_and_free program ≡ true
unfolding clap_on_literals
simple = refl

known : is_simple program ≡ true
unfolding clap_on_literals
known = refl

-- ---- the arguments of the subcommands

other_fit : (name : Text) (test : Text → Bool) (a : Rule) → bytes_eq a.id name ≡ false → IsFit name test a
other_fit name test a other = record {
  reading = λ same. absurd (true≢false (sym same ∙ other));
  uncounted = λ same is. absurd (true≢false (sym same ∙ other));
  given = λ same values range none. absurd (true≢false (sym same ∙ other));
  default = λ same v vs none. absurd (true≢false (sym same ∙ other));
}

-- the arguments as they are built
abbrev query : Rule
query = with_index 1 (filled name_rule)

abbrev file : Rule
file = with_index 1 (filled file_rule)

abbrev bail : Rule
bail = filled bail_rule

abbrev progress : Rule
progress = filled progress_rule

abbrev no_progress : Rule
no_progress = filled no_progress_rule

abbrev format : Rule
format = filled format_rule

abbrev workers : Rule
workers = filled workers_rule

abbrev as_script : Rule
as_script = filled as_script_rule

abbrev worst : Rule
worst = filled worst_rule

abbrev help_flag : Rule
help_flag = filled help_rule

query_given : (values : List Text) → range_kinds 1 1 (length values) ≡ [] → HasFirst (λ _. true) (values_or_missing query values)
query_given [] range = absurd (cc)
query_given (v ∷ vs) range = refl

query_fit : IsFit (codes "NAME") (λ _. true) query
query_fit = record {
  reading = λ same. refl;
  uncounted = λ same is. absurd (cc);
  given = λ same values range none. query_given values range;
  default = λ same v vs none. refl;
}

workers_given : (values : List Text) → range_kinds 1 1 (length values) ≡ [] → values_fault workers (values_or_missing workers values) ≡ []
    → HasFirst (is_unsigned_in 1 64) (values_or_missing workers values)
workers_given [] range none = absurd (cc)
workers_given (v ∷ vs) range none = first_passes workers v vs none

workers_fit : IsFit (codes "workers") (is_unsigned_in 1 64) workers
workers_fit = record {
  reading = λ same. refl;
  uncounted = λ same is. absurd (cc);
  given = λ same values range none. workers_given values range none;
  default = λ same v vs none. first_passes workers v vs none;
}

worst_given : (values : List Text) → range_kinds 1 1 (length values) ≡ [] → values_fault worst (values_or_missing worst values) ≡ []
    → HasFirst (is_unsigned_in 1 64) (values_or_missing worst values)
worst_given [] range none = absurd (cc)
worst_given (v ∷ vs) range none = first_passes worst v vs none

worst_fit : IsFit (codes "worst") (is_unsigned_in 1 64) worst
worst_fit = record {
  reading = λ same. refl;
  uncounted = λ same is. absurd (cc);
  given = λ same values range none. worst_given values range none;
  default = λ same v vs none. first_passes worst v vs none;
}

-- ---- the subcommands

-- a request has workers, if its task has any
abbrev pub HasItsWorkers : Request → Type 0
HasItsWorkers r = HasWorkers r.command

-- if the arguments of the subcommand have no fault, they form a request
abbrev IsServed : Shape → Type 0
IsServed s = (words : List Text) → level_fault s [] nothing_held words false [] ≡ []
    → IsSomeAnd (request_in (Some (rows_at s words))) HasItsWorkers

abbrev named_shape : Text → Shape
named_shape name = built_leaf (query_command name).top

-- the rows at the end of a level, and that its last check passed
check_none : (s : Shape) (words : List Text) → level_fault s [] nothing_held words false [] ≡ [] → check_fault s (rows_after s.rules [] words) false ≡ []
check_none s words none =
    let end = (walk s.rules [] nothing_held words).held in
    then_none (defaults_fault (settled s.rules end).rows s.rules) _ (then_none (settle_fault s.rules s.args_override_self end) _
    (then_none (walk_fault s [] (walk_from nothing_held) words) _ none))

must_be_given : (b : Bool) → check_kinds false false (not b || false) ≡ [] → b ≡ true
must_be_given true h = refl
must_be_given false h = absurd (cc)

query_is_given : (rows : List Row) → check_fault certify_shape rows false ≡ [] → is_given (codes "NAME") rows ≡ true
query_is_given rows none = must_be_given (is_given (codes "NAME") rows) none

name_is_given : (name : Text) (rows : List Row) → check_fault (named_shape name) rows false ≡ [] → is_given (codes "NAME") rows ≡ true
name_is_given name rows none = must_be_given (is_given (codes "NAME") rows) none

-- a name that is found, of which work is made
one_named : (ask : Text → RequestedCommand) (rows : List Row) (name : Text) → ((t : Text) → HasWorkers (ask t)) → first_of (codes "NAME") rows ≡ Some name
    → IsSomeAnd (option_map (requested rows) (option_map ask (first_of (codes "NAME") rows))) HasItsWorkers
one_named ask rows name within found = rw found (within name)

named_served : (name : Text) → (ask : Text → RequestedCommand) → ((t : Text) → HasWorkers (ask t))
    → ((rows : List Row) → task_in name rows ≡ option_map ask (first_of (codes "NAME") rows)) → IsServed (named_shape name)
named_served name ask within asks words none =
    let s = named_shape name in
    let rows = rows_after s.rules [] words in
    let given = has_text (codes "NAME") (λ _. true) rows
    (level_good (codes "NAME") (λ _. true) s words
    (query_fit, (other_fit _ _ _ refl, (other_fit _ _ _ refl, (other_fit _ _ _ refl, (other_fit _ _ _ refl, (other_fit _ _ _ refl, tt)))))) none)
    (given_there (codes "NAME") rows (name_is_given name rows (check_none s words none))) in
    subst (λ o. IsSomeAnd (option_map (requested rows) o) HasItsWorkers) (sym (asks rows))
    (one_named ask rows given.text within given.first)

certify_served : IsServed certify_shape
certify_served words none =
    let rows = rows_after certify_shape.rules [] words in
    let given = has_text (codes "NAME") (λ _. true) rows
    (level_good (codes "NAME") (λ _. true) certify_shape words
    (query_fit, (other_fit _ _ _ refl, (other_fit _ _ _ refl, (other_fit _ _ _ refl, (other_fit _ _ _ refl, (other_fit _ _ _ refl, (other_fit _ _ _ refl, tt))))))) none)
    (given_there (codes "NAME") rows (query_is_given rows (check_none certify_shape words none))) in
    one_named (λ name. asked.certify name (flag_in (codes "steps") rows)) rows given.text (λ t. tt) given.first

explain_served : IsServed explain_shape
explain_served words none =
    let rows = rows_after explain_shape.rules [] words in
    let given = has_text (codes "NAME") (λ _. true) rows
    (level_good (codes "NAME") (λ _. true) explain_shape words
    (query_fit, (other_fit _ _ _ refl, (other_fit _ _ _ refl, (other_fit _ _ _ refl, (other_fit _ _ _ refl, (other_fit _ _ _ refl, (other_fit _ _ _ refl, (other_fit _ _ _ refl, tt)))))))) none)
    (given_there (codes "NAME") rows (must_be_given (is_given (codes "NAME") rows) (check_none explain_shape words none))) in
    one_named (λ name. asked.explain name (flag_in (codes "prose") rows)) rows given.text (λ t. tt) given.first

shrink_served : IsServed shrink_shape
shrink_served words none =
    let rows = rows_after shrink_shape.rules [] words in
    let given = has_text (codes "NAME") (λ _. true) rows
    (level_good (codes "NAME") (λ _. true) shrink_shape words
    (query_fit, (other_fit _ _ _ refl, (other_fit _ _ _ refl, (other_fit _ _ _ refl, (other_fit _ _ _ refl, (other_fit _ _ _ refl, (other_fit _ _ _ refl, tt))))))) none)
    (given_there (codes "NAME") rows (must_be_given (is_given (codes "NAME") rows) (check_none shrink_shape words none))) in
    one_named (λ name. asked.shrink name (number_option (codes "at-least") rows)) rows given.text (λ t. tt) given.first

-- a number that is read as it stands
pub number : (text : Text) → is_unsigned_in 1 64 text ≡ true
    → (parsed_number text ≡ Some (digits_value 10 (without_leading_plus text))) × (1 ≤ digits_value 10 (without_leading_plus text)) × (digits_value 10 (without_leading_plus text) ≤ 64)
number text passes =
    let fits = accepts-Accepts false (Unsigned 1 64) text passes in
    let wide : is_unsigned_in 0 18446744073709551615 text ≡ true = Accepts-accepts false (Unsigned 0 18446744073709551615) text (fits.0, fits.1, omega arith, omega arith) in
    (rw wide refl, fits.2, fits.3)

count_served : (option : Text) (ask : ℕ → RequestedCommand) (rows : List Row) (text : Text) → ((n : ℕ) → 1 ≤ n → n ≤ 64 → HasWorkers (ask n)) → one_of option rows ≡ Some text → is_unsigned_in 1 64 text ≡ true
    → IsSomeAnd (option_map (requested rows) (option_map ask (number_option option rows))) HasItsWorkers
count_served option ask rows text within one passes =
    let read = number text passes in
    let counted : number_option option rows ≡ Some (digits_value 10 (without_leading_plus text)) = rw one read.0 in
    rw counted (within _ read.1 read.2)

-- the rows with the defaults of what each command that reads a script takes first
abbrev before_own : List Row → List Row
before_own rows = with_default (with_default (with_default (with_default rows file) bail) progress) no_progress

audit_served : IsServed audit_shape
audit_served words none =
    let rows = rows_after audit_shape.rules [] words in
    let held = (walk audit_shape.rules [] nothing_held words).held in
    let given = has_text (codes "workers") (is_unsigned_in 1 64) rows
    (level_good (codes "workers") (is_unsigned_in 1 64) audit_shape words
    (other_fit _ _ _ refl, (other_fit _ _ _ refl, (other_fit _ _ _ refl, (other_fit _ _ _ refl, (workers_fit, (other_fit _ _ _ refl, (other_fit _ _ _ refl, tt))))))) none)
    (default_there workers (codes "4") [] (format ∷ help_flag ∷ []) (before_own (settled audit_shape.rules held).rows) refl) in
    count_served (codes "workers") asked.audit rows given.text (λ n low high. (low, high)) given.one given.passes

page_served : IsServed page_shape
page_served words none =
    let rows = rows_after page_shape.rules [] words in
    let held = (walk page_shape.rules [] nothing_held words).held in
    let given = has_text (codes "worst") (is_unsigned_in 1 64) rows
    (level_good (codes "worst") (is_unsigned_in 1 64) page_shape words
    (other_fit _ _ _ refl, (other_fit _ _ _ refl, (other_fit _ _ _ refl, (other_fit _ _ _ refl, (worst_fit, (other_fit _ _ _ refl, tt)))))) none)
    (default_there worst (codes "10") [] (help_flag ∷ []) (before_own (settled page_shape.rules held).rows) refl) in
    count_served (codes "worst") asked.page rows given.text (λ n low high. tt) given.one given.passes

drive_served : IsServed drive_shape
drive_served words none =
    let rows = rows_after drive_shape.rules [] words in
    let held = (walk drive_shape.rules [] nothing_held words).held in
    let given = has_text (codes "workers") (is_unsigned_in 1 64) rows
    (level_good (codes "workers") (is_unsigned_in 1 64) drive_shape words
    (other_fit _ _ _ refl, (workers_fit, (other_fit _ _ _ refl, (other_fit _ _ _ refl, tt)))) none)
    (default_there workers (codes "4") [] (as_script ∷ help_flag ∷ []) (with_default (settled drive_shape.rules held).rows file) refl) in
    count_served (codes "workers") (λ n. asked.drive n (flag_in (codes "as-script") rows)) rows given.text (λ n low high. (low, high)) given.one given.passes

-- the program and its commands as they are built
abbrev shell : App
shell = built program

abbrev AllServed : List Shape → Type 0
AllServed [] = Unit {0}
AllServed (s ∷ rest) = ((label_of s ≡ (help, [])) ⊎ IsServed s) × AllServed rest

served : AllServed shell.subs
served = (
  inr (λ words none. tt),
  (
    inr certify_served,
    (
      inr (λ words none. tt),
      (
        inr explain_served,
        (
          inr (named_served (codes "picture") asked.picture (λ t. tt) (λ rows. refl)),
          (
            inr page_served,
            (
              inr (λ words none. tt),
              (inr (λ words none. tt), (inr (λ words none. tt), (inr (λ words none. tt), (inr shrink_served, (inr audit_served, (inr drive_served, (inr (λ words none. tt), (inr (λ words none. tt), (inl refl, tt))))))))),
            ),
          ),
        ),
      ),
    ),
  ),
)

-- a subcommand is needed
needs_one : (rows : List Row) (has : Bool) → check_fault shell.top rows has ≡ [] → has ≡ true
needs_one rows true none = refl
needs_one rows false none = absurd (cc)

-- a text that is not `help` is not the label of `help`
no_help : (word : Text) → bytes_eq word help ≡ false → answers_to word (help, []) ≡ true → ⊥
no_help word other same = go (bytes_eq help word) refl same
  where
    go : (b : Bool) → bytes_eq help word ≡ b → (b || false) ≡ true → ⊥
    go false is same = true≢false (sym same)
    go true is same = true≢false (sym ((bytes_eq-Decides word help).1 (sym ((bytes_eq-Decides help word).0 is))) ∙ other)

-- a subcommand that is met and is not `help` is the one requested
picked : (p : Text × List Text) → bytes_eq p.0 help ≡ false → (subs : List Shape) → AllServed subs
    → is_some (option_map (λ s. rows_at s p.1) (find (λ s. answers_to p.0 (label_of s)) subs)) ≡ true
    → option_map_or (λ s. level_fault s [] nothing_held p.1 false []) (find (λ s. answers_to p.0 (label_of s)) subs) [] ≡ []
    → IsSomeAnd (request_in (option_map (λ s. rows_at s p.1) (find (λ s. answers_to p.0 (label_of s)) subs))) HasItsWorkers
picked p other [] serves there none = absurd (true≢false (sym there))
picked p other (s ∷ rest) serves there none = go (answers_to p.0 (label_of s)) refl there none (picked p other rest serves.1)
  where
    go : (b : Bool) → answers_to p.0 (label_of s) ≡ b → is_some (option_map (λ s. rows_at s p.1) (cond b (Some s) (find (λ s. answers_to p.0 (label_of s)) rest))) ≡ true
        → option_map_or (λ s. level_fault s [] nothing_held p.1 false []) (cond b (Some s) (find (λ s. answers_to p.0 (label_of s)) rest)) [] ≡ []
        → (is_some (option_map (λ s. rows_at s p.1) (find (λ s. answers_to p.0 (label_of s)) rest)) ≡ true
        → option_map_or (λ s. level_fault s [] nothing_held p.1 false []) (find (λ s. answers_to p.0 (label_of s)) rest) [] ≡ []
        → IsSomeAnd (request_in (option_map (λ s. rows_at s p.1) (find (λ s. answers_to p.0 (label_of s)) rest))) HasItsWorkers)
        → IsSomeAnd (request_in (option_map (λ s. rows_at s p.1) (cond b (Some s) (find (λ s. answers_to p.0 (label_of s)) rest)))) HasItsWorkers
    go true answers any passed more = ⊎_elim (λ is_help. absurd (no_help p.0 other (subst (λ label. answers_to p.0 label ≡ true) is_help answers))) (λ serve. serve p.1 passed) serves.0
    go false answers any passed more = more any passed

entered_requests : (stop : Option (Text × List Text)) → StopsElsewhere stop → is_some (entered shell stop) ≡ true → entered_fault shell stop ≡ []
    → IsSomeAnd (request_in (entered shell stop)) HasItsWorkers
entered_requests None elsewhere there none = absurd (true≢false (sym there))
entered_requests (Some p) elsewhere there none = picked p elsewhere shell.subs served there none

-- arguments without a fault form a request
pub faultless_requests : (words : List Text) → fault_of program words ≡ [] → IsSomeAnd (request_in (subcommand_of program words)) HasItsWorkers
faultless_requests words none =
    let given = argument_words program words in
    let end = walk shell.top.rules (names_of shell) nothing_held given in
    let first = walk_fault shell.top (names_of shell) (walk_from nothing_held) given in
    let below = entered_fault shell end.stopped in
    let after = then_none first _ none in
    let settle = settle_fault shell.top.rules shell.top.args_override_self end.held in
    let last = then_none (defaults_fault (settled shell.top.rules end.held).rows shell.top.rules) _ (then_none settle _ (then_none below _ after)) in
    entered_requests end.stopped (walk_elsewhere shell.top (names_of shell) (walk_from nothing_held) given refl tt (first_none first _ none))
    (needs_one (finished shell.top.rules end.held) _ last) (first_none below _ after)

-- the faults that clap reports for a command that is the program
pub of_program : (P : Kinds → Type 0) (app : App) (words : List Text) → app ≡ program → (is_simple_and_free app ≡ true → P (fault_of app words)) → P (fault_of program words)
of_program P app words is of_app = subst P (ap (λ a. fault_of a words) is) (of_app (ap is_simple_and_free is ∙ simple))

-- the matches that clap reports
pub found_by_program : (app : App) (words : List Text) (m : ArgMatches) → app ≡ program → HasMatchesOf app words m → subcommand_rows_of m ≡ subcommand_of program words
found_by_program app words m is has = (has (ap is_simple is ∙ known)).1 ∙ ap (λ a. subcommand_of a words) is

-- so a job is found in them, and it has workers
pub job_found : (o : Option Job) (words : List Text) (m : ArgMatches) → option_map request_of o ≡ request_in (subcommand_rows_of m) → subcommand_rows_of m ≡ subcommand_of program words
    → fault_of program words ≡ [] → IsSomeAnd o (λ job. (request_in (subcommand_of program words) ≡ Some (request_of job)) × HasWorkers (requested_command job.task))
job_found o words m is found none = go o (is ∙ ap request_in found) (faultless_requests words none)
  where
    go : (o : Option Job) → option_map request_of o ≡ request_in (subcommand_of program words) → IsSomeAnd (request_in (subcommand_of program words)) HasItsWorkers
        → IsSomeAnd o (λ job. (request_in (subcommand_of program words) ≡ Some (request_of job)) × HasWorkers (requested_command job.task))
    go None same some = absurd (subst (λ r. IsSomeAnd r HasItsWorkers) (sym same) some)
    go (Some job) same some = (sym same, subst (λ r. IsSomeAnd r HasItsWorkers) (sym same) some)
