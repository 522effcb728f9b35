-- Arguments that form a job have no fault, and request it.
use Rattle.std.proofs.Common.{◌≡◌, ℕ, Bool, cond, codes, true, false, refl, sym, ap, subst, List, [], ◌∷◌, ◌++◌, Option, Some, None, IfOk, IsErrAnd, Result, Ok, Err, MatchResult, ⊎_elim, inl, inr, ◌==◌, arith, ◌&&◌, bytes_eq, option_map, ◌∙◌}
use Rattle.clap.proofs.ValueTestLemmas.{accepts-Accepts}
use Rattle.std.specs.Str.Parse.{IsNumeral, digits_value, without_leading_plus}
use Rattle.std.proofs.lemmas.Bool.Decides.{nat_tests}
use Rattle.std.proofs.lemmas.Str.Parse.{digit_from_value}
use Rattle.clap.specs.Lexer.{strip_byte}
use Rattle.clap.specs.Walk.{Row, Text, Walk, finished, idle, nothing_held, walk_from, walked}
use Rattle.clap.specs.Simple.{Shape, subcommand_of}
use Rattle.clap.specs.Values.{kind_of}
use Rattle.clap.specs.ValueTests.{is_unsigned_in}
use Rattle.clap.specs.Kinds.{FailsBy, IsAmong}
use Rattle.clap.specs.Faults.{fault_of}
use Rattle.clap.proofs.OnLiterals.{clap_on_literals}
use Rattle.clap.specs.declared.builder.value_parser.ValueParser.TheVariants.{Unsigned}
use Rattle.clap.specs.declared.error.Error.{Error}
use Rattle.clap.specs.declared.error.kind.ErrorKind.TheVariants as kind
use Rattle.esr_cli.specs.Job as asked
use Rattle.esr_cli.specs.ArgumentRules.{program}
use Rattle.esr_cli.specs.Job.{IsSyntaxOfTask, IsArgv, IsNumberOption, IsFile, IsPlainWord, Request, IsSyntaxOf, RequestedCommand, file_words, flag_words, parsed_number, request_in, request_of}
use Rattle.esr_cli.specs.declared.Job.{Job}
use Rattle.esr_cli.specs.declared.Format.TheVariants.{Text as Plain}
use Rattle.esr_cli.specs.declared.Progress.TheVariants.{AtATerminal}
use Rattle.esr_cli.proofs.Entered.{IsNameOf, audit_is, audit_shape, certify_is, certify_shape, check_is, check_shape, drive_is, drive_shape, explain_is, explain_shape, explore_is, explore_shape, fault_of_rest, ledger_is, ledger_shape, lint_is, lint_shape, page_is, page_shape, picture_is, picture_shape, rows_of_rest, run_is, run_shape, shrink_is, shrink_shape, timeline_is, timeline_shape, trace_is, trace_shape, why_is, why_shape}
use Rattle.esr_cli.proofs.WalksTo.{IsOperand, WalksTo, at_end, after_operand, fault_at, finished_well, own_fault_is, rows_are, then_operand, then_word}
use Rattle.esr_cli.proofs.Faultless.{number}

-- the request without the other options
abbrev plainly : RequestedCommand → Option Text → Bool → Request
plainly command file bail =
    record { command = command; file = file; bail = bail; progress = AtATerminal; format = Some Plain }

-- the arguments have no fault, and form this request
abbrev IsTaken : List Text → Request → Type 0
IsTaken words wanted = (fault_of program words ≡ []) × (request_in (subcommand_of program words) ≡ Some wanted)

abbrev AreTaken : List Text → Request → Type 0
AreTaken rest wanted = (name : Text) → IsTaken (name ∷ rest) wanted

called : (words rest : List Text) (wanted : Request) → IsArgv words rest → AreTaken rest wanted → IsTaken words wanted
called words rest wanted (name, is) taken = subst (λ w. IsTaken w wanted) (sym is) (taken name)

not_dashes : (word : Text) → strip_byte 45 word ≡ None → bytes_eq word (45 ∷ 45 ∷ []) ≡ false
not_dashes [] plain = refl
not_dashes (x ∷ xs) plain = go (x == 45) plain
  where
    go : (b : Bool) → cond b (Some xs) None ≡ None → (b && bytes_eq xs (45 ∷ [])) ≡ false
    go true h = absurd (cc)
    go false h = refl

plain_operand : (word : Text) → IsPlainWord word → IsOperand word
plain_operand word plain = record { no_dashes = not_dashes word plain; no_long = rw plain refl; no_short = rw plain refl }

file_operand : (file : Text) → IsFile (Some file) → IsOperand file
file_operand file (inl is) = subst IsOperand (sym is) (record { no_dashes = refl; no_long = refl; no_short = refl })
file_operand file (inr plain) = plain_operand file plain

-- if the arguments after the name of a subcommand walk to this state, without a fault, and request this, so do the
-- arguments with the name
remainder : (word : Text) (s : Shape) → IsNameOf word s → (rest : List Text) (to : Walk) (wanted : Request) → WalksTo s (walk_from nothing_held) rest to
    → fault_at s to ≡ [] → request_in (Some (s.name, finished s.rules to.held)) ≡ Some wanted → AreTaken (word ∷ rest) wanted
remainder word s is rest to wanted leads none asks name = (
  fault_of_rest name word s rest is ∙ own_fault_is s rest to leads ∙ none,
  ap request_in (rows_of_rest name word s rest is ∙ ap (λ (p : Text × List Row). Some p) (rows_are s rest to leads)) ∙ asks,
)

-- a task with a number that is read unchanged
counted : (ask : ℕ → RequestedCommand) (text : Text) (file : Option Text) (bail : Bool) → is_unsigned_in 1 64 text ≡ true
    → option_map {U = Request} (λ command. plainly command file bail) (option_map ask (parsed_number text))
    ≡ Some (plainly (ask (digits_value 10 (without_leading_plus text))) file bail)
counted ask text file bail passes = rw (number text passes).0 refl

-- the walk after an option with its number, and after a `--bail` that follows it
abbrev with_number : (option text : Text) → Walk
with_number option text = record {
  held = record { rows = []; pending = Some (option, text ∷ []); skip = 0 };
  waiting = idle;
  position = 1;
  is_trailing = false;
  stopped = None;
}

abbrev with_bail : Shape → (option text : Text) → Walk
with_bail s option text = record {
  held = record { rows = (walked s.rules [] (with_number option text) (codes "--bail")).held.rows; pending = None; skip = 0 };
  waiting = idle;
  position = 1;
  is_trailing = false;
  stopped = None;
}

-- the walk after a number of workers and `--as-script`
abbrev with_script : Text → Walk
with_script text = record {
  held = record { rows = (walked drive_shape.rules [] (with_number (codes "workers") text) (codes "--as-script")).held.rows; pending = None; skip = 0 };
  waiting = idle;
  position = 1;
  is_trailing = false;
  stopped = None;
}

run : (bail : Bool) (file : Option Text) → IsFile file → AreTaken (codes "run" ∷ (flag_words bail (codes "--bail") ++ file_words file)) (plainly asked.run file bail)
unfolding clap_on_literals
run false None plain =
    remainder (codes "run") run_shape run_is ([]) _ (plainly asked.run None false) (at_end run_shape _) refl refl
run false (Some file) plain =
    remainder (codes "run") run_shape run_is (file ∷ []) _ (plainly asked.run (Some file) false) (then_operand run_shape _ _ _ _ (file_operand file plain) refl refl refl (at_end run_shape _)) refl refl
run true None plain =
    remainder (codes "run") run_shape run_is (codes "--bail" ∷ []) _ (plainly asked.run None true) (then_word run_shape _ _ _ _ _ refl refl (at_end run_shape _)) refl refl
run true (Some file) plain =
    remainder (codes "run") run_shape run_is (codes "--bail" ∷ file ∷ []) _ (plainly asked.run (Some file) true) (then_word run_shape _ _ _ _ _ refl refl (then_operand run_shape _ _ _ _ (file_operand file plain) refl refl refl (at_end run_shape _))) refl refl

certify : (query : Text) (bail : Bool) (file : Option Text) → IsOperand query → IsFile file → AreTaken (codes "certify" ∷ (flag_words bail (codes "--bail") ++ (query ∷ [] ++ file_words file))) (plainly (asked.certify query false) file bail)
unfolding clap_on_literals
certify query false None is plain =
    remainder (codes "certify") certify_shape certify_is (query ∷ []) _ (plainly (asked.certify query false) None false) (then_operand certify_shape _ _ _ _ is refl refl refl (at_end certify_shape _)) refl refl
certify query false (Some file) is plain =
    remainder (codes "certify") certify_shape certify_is (query ∷ file ∷ []) _ (plainly (asked.certify query false) (Some file) false) (then_operand certify_shape _ _ _ _ is refl refl refl (then_operand certify_shape _ _ _ _ (file_operand file plain) refl refl refl (at_end certify_shape _))) refl refl
certify query true None is plain =
    remainder (codes "certify") certify_shape certify_is (codes "--bail" ∷ query ∷ []) _ (plainly (asked.certify query false) None true) (then_word certify_shape _ _ _ _ _ refl refl (then_operand certify_shape _ _ _ _ is refl refl refl (at_end certify_shape _))) refl refl
certify query true (Some file) is plain =
    remainder (codes "certify") certify_shape certify_is (codes "--bail" ∷ query ∷ file ∷ []) _ (plainly (asked.certify query false) (Some file) true) (then_word certify_shape _ _ _ _ _ refl refl (then_operand certify_shape _ _ _ _ is refl refl refl (then_operand certify_shape _ _ _ _ (file_operand file plain) refl refl refl (at_end certify_shape _)))) refl refl

certify_steps : (query : Text) (bail : Bool) (file : Option Text) → IsOperand query → IsFile file → AreTaken (codes "certify" ∷ codes "--steps" ∷ (flag_words bail (codes "--bail") ++ (query ∷ [] ++ file_words file))) (plainly (asked.certify query true) file bail)
unfolding clap_on_literals
certify_steps query false None is plain =
    remainder (codes "certify") certify_shape certify_is (codes "--steps" ∷ query ∷ []) _ (plainly (asked.certify query true) None false) (then_word certify_shape _ _ _ _ _ refl refl (then_operand certify_shape _ _ _ _ is refl refl refl (at_end certify_shape _))) refl refl
certify_steps query false (Some file) is plain =
    remainder (codes "certify") certify_shape certify_is (codes "--steps" ∷ query ∷ file ∷ []) _ (plainly (asked.certify query true) (Some file) false) (then_word certify_shape _ _ _ _ _ refl refl (then_operand certify_shape _ _ _ _ is refl refl refl (then_operand certify_shape _ _ _ _ (file_operand file plain) refl refl refl (at_end certify_shape _)))) refl refl
certify_steps query true None is plain =
    remainder (codes "certify") certify_shape certify_is (codes "--steps" ∷ codes "--bail" ∷ query ∷ []) _ (plainly (asked.certify query true) None true) (then_word certify_shape _ _ _ _ _ refl refl (then_word certify_shape _ _ _ _ _ refl refl (then_operand certify_shape _ _ _ _ is refl refl refl (at_end certify_shape _)))) refl refl
certify_steps query true (Some file) is plain =
    remainder (codes "certify") certify_shape certify_is (codes "--steps" ∷ codes "--bail" ∷ query ∷ file ∷ []) _ (plainly (asked.certify query true) (Some file) true) (then_word certify_shape _ _ _ _ _ refl refl (then_word certify_shape _ _ _ _ _ refl refl (then_operand certify_shape _ _ _ _ is refl refl refl (then_operand certify_shape _ _ _ _ (file_operand file plain) refl refl refl (at_end certify_shape _))))) refl refl

check : (file : Option Text) → IsFile file → AreTaken (codes "check" ∷ file_words file) (plainly (asked.check None None false) file false)
unfolding clap_on_literals
check None plain =
    remainder (codes "check") check_shape check_is ([]) _ (plainly (asked.check None None false) None false) (at_end check_shape _) refl refl
check (Some file) plain =
    remainder (codes "check") check_shape check_is (file ∷ []) _ (plainly (asked.check None None false) (Some file) false) (then_operand check_shape _ _ _ _ (file_operand file plain) refl refl refl (at_end check_shape _)) refl refl

explain : (query : Text) (bail : Bool) (file : Option Text) → IsOperand query → IsFile file → AreTaken (codes "explain" ∷ (flag_words bail (codes "--bail") ++ (query ∷ [] ++ file_words file))) (plainly (asked.explain query false) file bail)
unfolding clap_on_literals
explain query false None is plain =
    remainder (codes "explain") explain_shape explain_is (query ∷ []) _ (plainly (asked.explain query false) None false) (then_operand explain_shape _ _ _ _ is refl refl refl (at_end explain_shape _)) refl refl
explain query false (Some file) is plain =
    remainder (codes "explain") explain_shape explain_is (query ∷ file ∷ []) _ (plainly (asked.explain query false) (Some file) false) (then_operand explain_shape _ _ _ _ is refl refl refl (then_operand explain_shape _ _ _ _ (file_operand file plain) refl refl refl (at_end explain_shape _))) refl refl
explain query true None is plain =
    remainder (codes "explain") explain_shape explain_is (codes "--bail" ∷ query ∷ []) _ (plainly (asked.explain query false) None true) (then_word explain_shape _ _ _ _ _ refl refl (then_operand explain_shape _ _ _ _ is refl refl refl (at_end explain_shape _))) refl refl
explain query true (Some file) is plain =
    remainder (codes "explain") explain_shape explain_is (codes "--bail" ∷ query ∷ file ∷ []) _ (plainly (asked.explain query false) (Some file) true) (then_word explain_shape _ _ _ _ _ refl refl (then_operand explain_shape _ _ _ _ is refl refl refl (then_operand explain_shape _ _ _ _ (file_operand file plain) refl refl refl (at_end explain_shape _)))) refl refl

explain_prose : (query : Text) (bail : Bool) (file : Option Text) → IsOperand query → IsFile file → AreTaken (codes "explain" ∷ codes "--prose" ∷ (flag_words bail (codes "--bail") ++ (query ∷ [] ++ file_words file))) (plainly (asked.explain query true) file bail)
unfolding clap_on_literals
explain_prose query false None is plain =
    remainder (codes "explain") explain_shape explain_is (codes "--prose" ∷ query ∷ []) _ (plainly (asked.explain query true) None false) (then_word explain_shape _ _ _ _ _ refl refl (then_operand explain_shape _ _ _ _ is refl refl refl (at_end explain_shape _))) refl refl
explain_prose query false (Some file) is plain =
    remainder (codes "explain") explain_shape explain_is (codes "--prose" ∷ query ∷ file ∷ []) _ (plainly (asked.explain query true) (Some file) false) (then_word explain_shape _ _ _ _ _ refl refl (then_operand explain_shape _ _ _ _ is refl refl refl (then_operand explain_shape _ _ _ _ (file_operand file plain) refl refl refl (at_end explain_shape _)))) refl refl
explain_prose query true None is plain =
    remainder (codes "explain") explain_shape explain_is (codes "--prose" ∷ codes "--bail" ∷ query ∷ []) _ (plainly (asked.explain query true) None true) (then_word explain_shape _ _ _ _ _ refl refl (then_word explain_shape _ _ _ _ _ refl refl (then_operand explain_shape _ _ _ _ is refl refl refl (at_end explain_shape _)))) refl refl
explain_prose query true (Some file) is plain =
    remainder (codes "explain") explain_shape explain_is (codes "--prose" ∷ codes "--bail" ∷ query ∷ file ∷ []) _ (plainly (asked.explain query true) (Some file) true) (then_word explain_shape _ _ _ _ _ refl refl (then_word explain_shape _ _ _ _ _ refl refl (then_operand explain_shape _ _ _ _ is refl refl refl (then_operand explain_shape _ _ _ _ (file_operand file plain) refl refl refl (at_end explain_shape _))))) refl refl

picture : (query : Text) (bail : Bool) (file : Option Text) → IsOperand query → IsFile file → AreTaken (codes "picture" ∷ (flag_words bail (codes "--bail") ++ (query ∷ [] ++ file_words file))) (plainly (asked.picture query) file bail)
unfolding clap_on_literals
picture query false None is plain =
    remainder (codes "picture") picture_shape picture_is (query ∷ []) _ (plainly (asked.picture query) None false) (then_operand picture_shape _ _ _ _ is refl refl refl (at_end picture_shape _)) refl refl
picture query false (Some file) is plain =
    remainder (codes "picture") picture_shape picture_is (query ∷ file ∷ []) _ (plainly (asked.picture query) (Some file) false) (then_operand picture_shape _ _ _ _ is refl refl refl (then_operand picture_shape _ _ _ _ (file_operand file plain) refl refl refl (at_end picture_shape _))) refl refl
picture query true None is plain =
    remainder (codes "picture") picture_shape picture_is (codes "--bail" ∷ query ∷ []) _ (plainly (asked.picture query) None true) (then_word picture_shape _ _ _ _ _ refl refl (then_operand picture_shape _ _ _ _ is refl refl refl (at_end picture_shape _))) refl refl
picture query true (Some file) is plain =
    remainder (codes "picture") picture_shape picture_is (codes "--bail" ∷ query ∷ file ∷ []) _ (plainly (asked.picture query) (Some file) true) (then_word picture_shape _ _ _ _ _ refl refl (then_operand picture_shape _ _ _ _ is refl refl refl (then_operand picture_shape _ _ _ _ (file_operand file plain) refl refl refl (at_end picture_shape _)))) refl refl

page : (bail : Bool) (file : Option Text) → IsFile file → AreTaken (codes "page" ∷ (flag_words bail (codes "--bail") ++ file_words file)) (plainly (asked.page 10) file bail)
unfolding clap_on_literals
page false None plain =
    remainder (codes "page") page_shape page_is ([]) _ (plainly (asked.page 10) None false) (at_end page_shape _) refl refl
page false (Some file) plain =
    remainder (codes "page") page_shape page_is (file ∷ []) _ (plainly (asked.page 10) (Some file) false) (then_operand page_shape _ _ _ _ (file_operand file plain) refl refl refl (at_end page_shape _)) refl refl
page true None plain =
    remainder (codes "page") page_shape page_is (codes "--bail" ∷ []) _ (plainly (asked.page 10) None true) (then_word page_shape _ _ _ _ _ refl refl (at_end page_shape _)) refl refl
page true (Some file) plain =
    remainder (codes "page") page_shape page_is (codes "--bail" ∷ file ∷ []) _ (plainly (asked.page 10) (Some file) true) (then_word page_shape _ _ _ _ _ refl refl (then_operand page_shape _ _ _ _ (file_operand file plain) refl refl refl (at_end page_shape _))) refl refl

page_counted : (text : Text) (bail : Bool) (file : Option Text) → IsOperand text → is_unsigned_in 1 64 text ≡ true → IsFile file → AreTaken (codes "page" ∷ codes "--worst" ∷ text ∷ (flag_words bail (codes "--bail") ++ file_words file)) (plainly (asked.page (digits_value 10 (without_leading_plus text))) file bail)
unfolding clap_on_literals
page_counted text false None is passes plain =
    remainder (codes "page") page_shape page_is (codes "--worst" ∷ text ∷ []) (after_operand page_shape.rules (walked page_shape.rules [] (walk_from nothing_held) (codes "--worst")) text) (plainly (asked.page (digits_value 10 (without_leading_plus text))) None false) (then_word page_shape _ _ _ _ _ refl refl (then_operand page_shape _ _ _ _ is refl refl refl (at_end page_shape _))) (finished_well page_shape (after_operand page_shape.rules (walked page_shape.rules [] (walk_from nothing_held) (codes "--worst")) text) (rw passes refl) refl) (counted asked.page text None false passes)
page_counted text false (Some file) is passes plain =
    remainder (codes "page") page_shape page_is (codes "--worst" ∷ text ∷ file ∷ []) (after_operand page_shape.rules (after_operand page_shape.rules (walked page_shape.rules [] (walk_from nothing_held) (codes "--worst")) text) file) (plainly (asked.page (digits_value 10 (without_leading_plus text))) (Some file) false) (then_word page_shape _ _ _ _ _ refl refl (then_operand page_shape _ _ _ _ is refl refl refl (then_operand page_shape _ _ _ _ (file_operand file plain) refl refl (rw passes refl) (at_end page_shape _)))) refl (counted asked.page text (Some file) false passes)
page_counted text true None is passes plain =
    remainder (codes "page") page_shape page_is (codes "--worst" ∷ text ∷ codes "--bail" ∷ []) (walked page_shape.rules [] (after_operand page_shape.rules (walked page_shape.rules [] (walk_from nothing_held) (codes "--worst")) text) (codes "--bail")) (plainly (asked.page (digits_value 10 (without_leading_plus text))) None true) (then_word page_shape _ _ _ _ _ refl refl (then_operand page_shape _ _ _ _ is refl refl refl (then_word page_shape _ _ _ _ _ refl (rw passes refl) (at_end page_shape _)))) refl (counted asked.page text None true passes)
page_counted text true (Some file) is passes plain =
    remainder (codes "page") page_shape page_is (codes "--worst" ∷ text ∷ codes "--bail" ∷ file ∷ []) (after_operand page_shape.rules (with_bail page_shape (codes "worst") text) file) (plainly (asked.page (digits_value 10 (without_leading_plus text))) (Some file) true)
    (then_word page_shape _ _ (after_operand page_shape.rules (with_bail page_shape (codes "worst") text) file) _ _ refl refl (then_operand page_shape _ (after_operand page_shape.rules (with_bail page_shape (codes "worst") text) file) _ _ is refl refl refl
    (then_word page_shape (with_number (codes "worst") text) (with_bail page_shape (codes "worst") text) (after_operand page_shape.rules (with_bail page_shape (codes "worst") text) file) _ _ refl (rw passes refl) (then_operand page_shape (with_bail page_shape (codes "worst") text) (after_operand page_shape.rules (with_bail page_shape (codes "worst") text) file) _ _ (file_operand file plain) refl refl refl (at_end page_shape (after_operand page_shape.rules (with_bail page_shape (codes "worst") text) file)))))) refl (counted asked.page text (Some file) true passes)

ledger : (bail : Bool) (file : Option Text) → IsFile file → AreTaken (codes "ledger" ∷ (flag_words bail (codes "--bail") ++ file_words file)) (plainly asked.ledger file bail)
unfolding clap_on_literals
ledger false None plain =
    remainder (codes "ledger") ledger_shape ledger_is ([]) _ (plainly asked.ledger None false) (at_end ledger_shape _) refl refl
ledger false (Some file) plain =
    remainder (codes "ledger") ledger_shape ledger_is (file ∷ []) _ (plainly asked.ledger (Some file) false) (then_operand ledger_shape _ _ _ _ (file_operand file plain) refl refl refl (at_end ledger_shape _)) refl refl
ledger true None plain =
    remainder (codes "ledger") ledger_shape ledger_is (codes "--bail" ∷ []) _ (plainly asked.ledger None true) (then_word ledger_shape _ _ _ _ _ refl refl (at_end ledger_shape _)) refl refl
ledger true (Some file) plain =
    remainder (codes "ledger") ledger_shape ledger_is (codes "--bail" ∷ file ∷ []) _ (plainly asked.ledger (Some file) true) (then_word ledger_shape _ _ _ _ _ refl refl (then_operand ledger_shape _ _ _ _ (file_operand file plain) refl refl refl (at_end ledger_shape _))) refl refl

why : (bail : Bool) (file : Option Text) → IsFile file → AreTaken (codes "why" ∷ (flag_words bail (codes "--bail") ++ file_words file)) (plainly (asked.why None) file bail)
unfolding clap_on_literals
why false None plain =
    remainder (codes "why") why_shape why_is ([]) _ (plainly (asked.why None) None false) (at_end why_shape _) refl refl
why false (Some file) plain =
    remainder (codes "why") why_shape why_is (file ∷ []) _ (plainly (asked.why None) (Some file) false) (then_operand why_shape _ _ _ _ (file_operand file plain) refl refl refl (at_end why_shape _)) refl refl
why true None plain =
    remainder (codes "why") why_shape why_is (codes "--bail" ∷ []) _ (plainly (asked.why None) None true) (then_word why_shape _ _ _ _ _ refl refl (at_end why_shape _)) refl refl
why true (Some file) plain =
    remainder (codes "why") why_shape why_is (codes "--bail" ∷ file ∷ []) _ (plainly (asked.why None) (Some file) true) (then_word why_shape _ _ _ _ _ refl refl (then_operand why_shape _ _ _ _ (file_operand file plain) refl refl refl (at_end why_shape _))) refl refl

timeline : (bail : Bool) (file : Option Text) → IsFile file → AreTaken (codes "timeline" ∷ (flag_words bail (codes "--bail") ++ file_words file)) (plainly (asked.timeline None) file bail)
unfolding clap_on_literals
timeline false None plain =
    remainder (codes "timeline") timeline_shape timeline_is ([]) _ (plainly (asked.timeline None) None false) (at_end timeline_shape _) refl refl
timeline false (Some file) plain =
    remainder (codes "timeline") timeline_shape timeline_is (file ∷ []) _ (plainly (asked.timeline None) (Some file) false) (then_operand timeline_shape _ _ _ _ (file_operand file plain) refl refl refl (at_end timeline_shape _)) refl refl
timeline true None plain =
    remainder (codes "timeline") timeline_shape timeline_is (codes "--bail" ∷ []) _ (plainly (asked.timeline None) None true) (then_word timeline_shape _ _ _ _ _ refl refl (at_end timeline_shape _)) refl refl
timeline true (Some file) plain =
    remainder (codes "timeline") timeline_shape timeline_is (codes "--bail" ∷ file ∷ []) _ (plainly (asked.timeline None) (Some file) true) (then_word timeline_shape _ _ _ _ _ refl refl (then_operand timeline_shape _ _ _ _ (file_operand file plain) refl refl refl (at_end timeline_shape _))) refl refl

trace : (bail : Bool) (file : Option Text) → IsFile file → AreTaken (codes "trace" ∷ (flag_words bail (codes "--bail") ++ file_words file)) (plainly asked.trace file bail)
unfolding clap_on_literals
trace false None plain =
    remainder (codes "trace") trace_shape trace_is ([]) _ (plainly asked.trace None false) (at_end trace_shape _) refl refl
trace false (Some file) plain =
    remainder (codes "trace") trace_shape trace_is (file ∷ []) _ (plainly asked.trace (Some file) false) (then_operand trace_shape _ _ _ _ (file_operand file plain) refl refl refl (at_end trace_shape _)) refl refl
trace true None plain =
    remainder (codes "trace") trace_shape trace_is (codes "--bail" ∷ []) _ (plainly asked.trace None true) (then_word trace_shape _ _ _ _ _ refl refl (at_end trace_shape _)) refl refl
trace true (Some file) plain =
    remainder (codes "trace") trace_shape trace_is (codes "--bail" ∷ file ∷ []) _ (plainly asked.trace (Some file) true) (then_word trace_shape _ _ _ _ _ refl refl (then_operand trace_shape _ _ _ _ (file_operand file plain) refl refl refl (at_end trace_shape _))) refl refl

shrink : (query : Text) (bail : Bool) (file : Option Text) → IsOperand query → IsFile file → AreTaken (codes "shrink" ∷ (flag_words bail (codes "--bail") ++ (query ∷ [] ++ file_words file))) (plainly (asked.shrink query None) file bail)
unfolding clap_on_literals
shrink query false None is plain =
    remainder (codes "shrink") shrink_shape shrink_is (query ∷ []) _ (plainly (asked.shrink query None) None false) (then_operand shrink_shape _ _ _ _ is refl refl refl (at_end shrink_shape _)) refl refl
shrink query false (Some file) is plain =
    remainder (codes "shrink") shrink_shape shrink_is (query ∷ file ∷ []) _ (plainly (asked.shrink query None) (Some file) false) (then_operand shrink_shape _ _ _ _ is refl refl refl (then_operand shrink_shape _ _ _ _ (file_operand file plain) refl refl refl (at_end shrink_shape _))) refl refl
shrink query true None is plain =
    remainder (codes "shrink") shrink_shape shrink_is (codes "--bail" ∷ query ∷ []) _ (plainly (asked.shrink query None) None true) (then_word shrink_shape _ _ _ _ _ refl refl (then_operand shrink_shape _ _ _ _ is refl refl refl (at_end shrink_shape _))) refl refl
shrink query true (Some file) is plain =
    remainder (codes "shrink") shrink_shape shrink_is (codes "--bail" ∷ query ∷ file ∷ []) _ (plainly (asked.shrink query None) (Some file) true) (then_word shrink_shape _ _ _ _ _ refl refl (then_operand shrink_shape _ _ _ _ is refl refl refl (then_operand shrink_shape _ _ _ _ (file_operand file plain) refl refl refl (at_end shrink_shape _)))) refl refl

audit : (bail : Bool) (file : Option Text) → IsFile file → AreTaken (codes "audit" ∷ (flag_words bail (codes "--bail") ++ file_words file)) (plainly (asked.audit 4) file bail)
unfolding clap_on_literals
audit false None plain =
    remainder (codes "audit") audit_shape audit_is ([]) _ (plainly (asked.audit 4) None false) (at_end audit_shape _) refl refl
audit false (Some file) plain =
    remainder (codes "audit") audit_shape audit_is (file ∷ []) _ (plainly (asked.audit 4) (Some file) false) (then_operand audit_shape _ _ _ _ (file_operand file plain) refl refl refl (at_end audit_shape _)) refl refl
audit true None plain =
    remainder (codes "audit") audit_shape audit_is (codes "--bail" ∷ []) _ (plainly (asked.audit 4) None true) (then_word audit_shape _ _ _ _ _ refl refl (at_end audit_shape _)) refl refl
audit true (Some file) plain =
    remainder (codes "audit") audit_shape audit_is (codes "--bail" ∷ file ∷ []) _ (plainly (asked.audit 4) (Some file) true) (then_word audit_shape _ _ _ _ _ refl refl (then_operand audit_shape _ _ _ _ (file_operand file plain) refl refl refl (at_end audit_shape _))) refl refl

audit_counted : (text : Text) (bail : Bool) (file : Option Text) → IsOperand text → is_unsigned_in 1 64 text ≡ true → IsFile file → AreTaken (codes "audit" ∷ codes "--workers" ∷ text ∷ (flag_words bail (codes "--bail") ++ file_words file)) (plainly (asked.audit (digits_value 10 (without_leading_plus text))) file bail)
unfolding clap_on_literals
audit_counted text false None is passes plain =
    remainder (codes "audit") audit_shape audit_is (codes "--workers" ∷ text ∷ []) (after_operand audit_shape.rules (walked audit_shape.rules [] (walk_from nothing_held) (codes "--workers")) text) (plainly (asked.audit (digits_value 10 (without_leading_plus text))) None false) (then_word audit_shape _ _ _ _ _ refl refl (then_operand audit_shape _ _ _ _ is refl refl refl (at_end audit_shape _))) (finished_well audit_shape (after_operand audit_shape.rules (walked audit_shape.rules [] (walk_from nothing_held) (codes "--workers")) text) (rw passes refl) refl) (counted asked.audit text None false passes)
audit_counted text false (Some file) is passes plain =
    remainder (codes "audit") audit_shape audit_is (codes "--workers" ∷ text ∷ file ∷ []) (after_operand audit_shape.rules (after_operand audit_shape.rules (walked audit_shape.rules [] (walk_from nothing_held) (codes "--workers")) text) file) (plainly (asked.audit (digits_value 10 (without_leading_plus text))) (Some file) false) (then_word audit_shape _ _ _ _ _ refl refl (then_operand audit_shape _ _ _ _ is refl refl refl (then_operand audit_shape _ _ _ _ (file_operand file plain) refl refl (rw passes refl) (at_end audit_shape _)))) refl (counted asked.audit text (Some file) false passes)
audit_counted text true None is passes plain =
    remainder (codes "audit") audit_shape audit_is (codes "--workers" ∷ text ∷ codes "--bail" ∷ []) (walked audit_shape.rules [] (after_operand audit_shape.rules (walked audit_shape.rules [] (walk_from nothing_held) (codes "--workers")) text) (codes "--bail")) (plainly (asked.audit (digits_value 10 (without_leading_plus text))) None true) (then_word audit_shape _ _ _ _ _ refl refl (then_operand audit_shape _ _ _ _ is refl refl refl (then_word audit_shape _ _ _ _ _ refl (rw passes refl) (at_end audit_shape _)))) refl (counted asked.audit text None true passes)
audit_counted text true (Some file) is passes plain =
    remainder (codes "audit") audit_shape audit_is (codes "--workers" ∷ text ∷ codes "--bail" ∷ file ∷ []) (after_operand audit_shape.rules (with_bail audit_shape (codes "workers") text) file) (plainly (asked.audit (digits_value 10 (without_leading_plus text))) (Some file) true)
    (then_word audit_shape _ _ (after_operand audit_shape.rules (with_bail audit_shape (codes "workers") text) file) _ _ refl refl (then_operand audit_shape _ (after_operand audit_shape.rules (with_bail audit_shape (codes "workers") text) file) _ _ is refl refl refl
    (then_word audit_shape (with_number (codes "workers") text) (with_bail audit_shape (codes "workers") text) (after_operand audit_shape.rules (with_bail audit_shape (codes "workers") text) file) _ _ refl (rw passes refl) (then_operand audit_shape (with_bail audit_shape (codes "workers") text) (after_operand audit_shape.rules (with_bail audit_shape (codes "workers") text) file) _ _ (file_operand file plain) refl refl refl (at_end audit_shape (after_operand audit_shape.rules (with_bail audit_shape (codes "workers") text) file)))))) refl (counted asked.audit text (Some file) true passes)

drive : (script : Bool) (file : Option Text) → IsFile file → AreTaken (codes "drive" ∷ (flag_words script (codes "--as-script") ++ file_words file)) (plainly (asked.drive 4 script) file false)
unfolding clap_on_literals
drive false None plain =
    remainder (codes "drive") drive_shape drive_is ([]) _ (plainly (asked.drive 4 false) None false) (at_end drive_shape _) refl refl
drive false (Some file) plain =
    remainder (codes "drive") drive_shape drive_is (file ∷ []) _ (plainly (asked.drive 4 false) (Some file) false) (then_operand drive_shape _ _ _ _ (file_operand file plain) refl refl refl (at_end drive_shape _)) refl refl
drive true None plain =
    remainder (codes "drive") drive_shape drive_is (codes "--as-script" ∷ []) _ (plainly (asked.drive 4 true) None false) (then_word drive_shape _ _ _ _ _ refl refl (at_end drive_shape _)) refl refl
drive true (Some file) plain =
    remainder (codes "drive") drive_shape drive_is (codes "--as-script" ∷ file ∷ []) _ (plainly (asked.drive 4 true) (Some file) false) (then_word drive_shape _ _ _ _ _ refl refl (then_operand drive_shape _ _ _ _ (file_operand file plain) refl refl refl (at_end drive_shape _))) refl refl

-- work of a number of workers, written as a script or not
counted_drive : (script : Bool) (text : Text) (file : Option Text) → is_unsigned_in 1 64 text ≡ true
    → option_map {U = Request} (λ command. plainly command file false) (option_map (λ n. asked.drive n script) (parsed_number text))
    ≡ Some (plainly (asked.drive (digits_value 10 (without_leading_plus text)) script) file false)
counted_drive script text file passes = rw (number text passes).0 refl

drive_counted : (script : Bool) (text : Text) (file : Option Text) → IsOperand text → is_unsigned_in 1 64 text ≡ true → IsFile file → AreTaken (codes "drive" ∷ codes "--workers" ∷ text ∷ (flag_words script (codes "--as-script") ++ file_words file)) (plainly (asked.drive (digits_value 10 (without_leading_plus text)) script) file false)
unfolding clap_on_literals
drive_counted false text None is passes plain =
    remainder (codes "drive") drive_shape drive_is (codes "--workers" ∷ text ∷ []) (after_operand drive_shape.rules (walked drive_shape.rules [] (walk_from nothing_held) (codes "--workers")) text) (plainly (asked.drive (digits_value 10 (without_leading_plus text)) false) None false) (then_word drive_shape _ _ _ _ _ refl refl (then_operand drive_shape _ _ _ _ is refl refl refl (at_end drive_shape _))) (finished_well drive_shape (after_operand drive_shape.rules (walked drive_shape.rules [] (walk_from nothing_held) (codes "--workers")) text) (rw passes refl) refl) (counted_drive false text None passes)
drive_counted false text (Some file) is passes plain =
    remainder (codes "drive") drive_shape drive_is (codes "--workers" ∷ text ∷ file ∷ []) (after_operand drive_shape.rules (after_operand drive_shape.rules (walked drive_shape.rules [] (walk_from nothing_held) (codes "--workers")) text) file) (plainly (asked.drive (digits_value 10 (without_leading_plus text)) false) (Some file) false) (then_word drive_shape _ _ _ _ _ refl refl (then_operand drive_shape _ _ _ _ is refl refl refl (then_operand drive_shape _ _ _ _ (file_operand file plain) refl refl (rw passes refl) (at_end drive_shape _)))) refl (counted_drive false text (Some file) passes)
drive_counted true text None is passes plain =
    remainder (codes "drive") drive_shape drive_is (codes "--workers" ∷ text ∷ codes "--as-script" ∷ []) (with_script text) (plainly (asked.drive (digits_value 10 (without_leading_plus text)) true) None false) (then_word drive_shape _ _ _ _ _ refl refl (then_operand drive_shape _ _ _ _ is refl refl refl (then_word drive_shape _ (with_script text) _ _ _ refl (rw passes refl) (at_end drive_shape _)))) refl (counted_drive true text None passes)
drive_counted true text (Some file) is passes plain =
    remainder (codes "drive") drive_shape drive_is (codes "--workers" ∷ text ∷ codes "--as-script" ∷ file ∷ []) (after_operand drive_shape.rules (with_script text) file) (plainly (asked.drive (digits_value 10 (without_leading_plus text)) true) (Some file) false) (then_word drive_shape _ _ _ _ _ refl refl (then_operand drive_shape _ _ _ _ is refl refl refl (then_word drive_shape _ (with_script text) _ _ _ refl (rw passes refl) (then_operand drive_shape _ _ _ _ (file_operand file plain) refl refl refl (at_end drive_shape _))))) refl (counted_drive true text (Some file) passes)

explore : (all : Bool) (file : Option Text) → IsFile file → AreTaken (codes "explore" ∷ (flag_words all (codes "--all") ++ file_words file)) (plainly (asked.explore None all None) file false)
unfolding clap_on_literals
explore false None plain =
    remainder (codes "explore") explore_shape explore_is ([]) _ (plainly (asked.explore None false None) None false) (at_end explore_shape _) refl refl
explore false (Some file) plain =
    remainder (codes "explore") explore_shape explore_is (file ∷ []) _ (plainly (asked.explore None false None) (Some file) false) (then_operand explore_shape _ _ _ _ (file_operand file plain) refl refl refl (at_end explore_shape _)) refl refl
explore true None plain =
    remainder (codes "explore") explore_shape explore_is (codes "--all" ∷ []) _ (plainly (asked.explore None true None) None false) (then_word explore_shape _ _ _ _ _ refl refl (at_end explore_shape _)) refl refl
explore true (Some file) plain =
    remainder (codes "explore") explore_shape explore_is (codes "--all" ∷ file ∷ []) _ (plainly (asked.explore None true None) (Some file) false) (then_word explore_shape _ _ _ _ _ refl refl (then_operand explore_shape _ _ _ _ (file_operand file plain) refl refl refl (at_end explore_shape _))) refl refl

lint : (file : Option Text) → IsFile file → AreTaken (codes "lint" ∷ file_words file) (plainly asked.lint file false)
unfolding clap_on_literals
lint None plain =
    remainder (codes "lint") lint_shape lint_is ([]) _ (plainly asked.lint None false) (at_end lint_shape _) refl refl
lint (Some file) plain =
    remainder (codes "lint") lint_shape lint_is (file ∷ []) _ (plainly asked.lint (Some file) false) (then_operand lint_shape _ _ _ _ (file_operand file plain) refl refl refl (at_end lint_shape _)) refl refl

-- a number does not begin with `-`
no_minus : (xs : List ℕ) → is_unsigned_in 1 64 (45 ∷ xs) ≡ true → ⊥
no_minus xs passes =
    let numeral : IsNumeral 10 (45 ∷ xs) = (accepts-Accepts false (Unsigned 1 64) (45 ∷ xs) passes).0 in
    let digit = digit_from_value 45 numeral.1.0 in
    omega arith

plain_number : (text : Text) → is_unsigned_in 1 64 text ≡ true → strip_byte 45 text ≡ None
plain_number [] passes = refl
plain_number (x ∷ xs) passes = go (x == 45) refl
  where
    go : (b : Bool) → (x == 45) ≡ b → cond b (Some xs) None ≡ None
    go true is = let same : x ≡ 45 = grind (arith, nat_tests) in absurd (no_minus xs (subst (λ y. is_unsigned_in 1 64 (y ∷ xs) ≡ true) same passes))
    go false is = refl

-- the arguments that follow the subcommand, with this count
with_count : (option : Text) (default_value n : ℕ) (own : List Text) (Taken : List Text → ℕ → Type 0) → IsNumberOption option default_value n own → Taken [] default_value
    → ((text : Text) → is_unsigned_in 1 64 text ≡ true → Taken (option ∷ text ∷ []) (digits_value 10 (without_leading_plus text))) → Taken own n
with_count option default_value n own Taken (inl (is, none)) plain counted = rw (is, none) plain
with_count option default_value n own Taken (inr (text, passes, is, words)) plain counted = rw (is, words) (counted text passes)

taken : (words : List Text) (command : RequestedCommand) (file : Option Text) (bail : Bool) → IsSyntaxOfTask command (plainly command file bail) words
    → IsTaken words (plainly command file bail)
taken words asked.run file bail (named, call) = called words _ _ call (run bail file named)
taken words (asked.certify query false) file bail (plain, (named, call)) =
    called words _ _ call (certify query bail file (plain_operand query plain) named)
taken words (asked.certify query true) file bail (plain, (named, call)) =
    called words _ _ call (certify_steps query bail file (plain_operand query plain) named)
taken words (asked.check None None false) file bail (named, none, call) = rw none (called words _ _ call (check file named))
taken words (asked.check None None true) file bail syntax = absurd syntax
taken words (asked.check None (Some query) verbose) file bail syntax = absurd syntax
taken words (asked.check (Some script) query verbose) file bail syntax = absurd syntax
taken words (asked.explain query false) file bail (plain, (named, call)) =
    called words _ _ call (explain query bail file (plain_operand query plain) named)
taken words (asked.explain query true) file bail (plain, (named, call)) =
    called words _ _ call (explain_prose query bail file (plain_operand query plain) named)
taken words (asked.picture query) file bail (plain, (named, call)) =
    called words _ _ call (picture query bail file (plain_operand query plain) named)
taken words (asked.page n) file bail (own, count, (named, call)) =
    called words _ _ call (with_count (codes "--worst") 10 n own (λ own n. AreTaken (codes "page" ∷ (own ++ (flag_words bail (codes "--bail") ++ file_words file))) (plainly (asked.page n) file bail)) count (page bail file named)
    (λ text passes. page_counted text bail file (plain_operand text (plain_number text passes)) passes named))
taken words (asked.audit n) file bail (own, workers, (named, call)) =
    called words _ _ call (with_count (codes "--workers") 4 n own (λ own n. AreTaken (codes "audit" ∷ (own ++ (flag_words bail (codes "--bail") ++ file_words file))) (plainly (asked.audit n) file bail)) workers (audit bail file named)
    (λ text passes. audit_counted text bail file (plain_operand text (plain_number text passes)) passes named))
taken words (asked.drive n script) file bail (own, workers, (named, none, call)) =
    rw none (called words _ _ call (with_count (codes "--workers") 4 n own (λ own n. AreTaken (codes "drive" ∷ (own ++ flag_words script (codes "--as-script") ++ file_words file)) (plainly (asked.drive n script) file false)) workers (drive script file named)
    (λ text passes. drive_counted script text file (plain_operand text (plain_number text passes)) passes named)))
taken words (asked.explore None all None) file bail (named, none, call) = rw none (called words _ _ call (explore all file named))
taken words (asked.explore (Some seeds) all worst) file bail syntax = absurd syntax
taken words (asked.explore None all (Some worst)) file bail syntax = absurd syntax
taken words asked.ledger file bail (named, call) = called words _ _ call (ledger bail file named)
taken words (asked.why None) file bail (named, call) = called words _ _ call (why bail file named)
taken words (asked.why (Some name)) file bail syntax = absurd syntax
taken words (asked.timeline None) file bail (named, call) = called words _ _ call (timeline bail file named)
taken words (asked.timeline (Some name)) file bail syntax = absurd syntax
taken words asked.trace file bail (named, call) = called words _ _ call (trace bail file named)
taken words (asked.shrink query None) file bail (plain, (named, call)) =
    called words _ _ call (shrink query bail file (plain_operand query plain) named)
taken words (asked.shrink query (Some distance)) file bail syntax = absurd syntax
taken words asked.lint file bail (named, none, call) = rw none (called words _ _ call (lint file named))

taken_as : (words : List Text) (wanted : Request) → IsSyntaxOf words wanted → IsTaken words wanted
taken_as words wanted (progress, format, is) =
    let same : plainly wanted.command wanted.file wanted.bail ≡ wanted = λ i. record {
      command = wanted.command;
      file = wanted.file;
      bail = wanted.bail;
      progress = sym progress i;
      format = sym format i;
    } in
    subst (IsTaken words) same (taken words wanted.command wanted.file wanted.bail (subst (λ r. IsSyntaxOfTask wanted.command r words) (sym same) is))

-- parsing arguments that form a job fails only if an allocation fails
pub parsed : (r : Result Job Error) (words : List Text) (wanted : Request) → IsSyntaxOf words wanted → FailsBy (fault_of program words) r
    → IfOk r (λ job. request_in (subcommand_of program words) ≡ Some (request_of job)) → MatchResult r (λ job. request_of job ≡ wanted) (λ e. kind_of e ≡ kind.OutOfMemory)
parsed (Ok job) words wanted syntax fails is = let same : Some (request_of job) ≡ Some wanted = sym is ∙ (taken_as words wanted syntax).1 in cc
parsed (Err e) words wanted syntax fails is = ⊎_elim (λ memory. memory) (λ among. absurd (subst (IsAmong (kind_of e)) (taken_as words wanted syntax).0 among)) fails

pub no_ok : {T : Type 0} (r : Result T Error) (P : Error → Type 0) (Q : T → Type 0) → IsErrAnd r P → IfOk r Q
no_ok (Ok x) P Q fails = absurd fails
no_ok (Err e) P Q fails = tt
