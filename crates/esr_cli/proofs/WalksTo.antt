-- The walk along the arguments of a subcommand, one by one. One lemma passes an argument of which only the kind,
-- operand, is known: if such a walk were computed as a whole, each test of the argument would remain open, and the
-- term would double with each.
use Rattle.std.proofs.Common.{◌≡◌, ◌∙◌, ap, ap₂, refl, ℕ, cond, false, fold, List, [], ◌∷◌, None, is_some, bytes_eq}
use Rattle.clap.specs.Lexer.{long_of, short_of}
use Rattle.clap.specs.Walk.{Held, Rule, Step, Text, Waiting, Walk, after_step, finished, idle, nothing_held, option, plain_word, positional, settled, subcommand_met, walk_from, walked, walked_from, word_met}
use Rattle.clap.specs.Simple.{Shape, rows_at}
use Rattle.clap.specs.Kinds.{Kinds, or_else}
use Rattle.clap.specs.Faults.{check_fault, defaults_fault, level_fault, settle_fault, step_fault, turn_fault, walk_fault, word_fault}

-- a word that is neither `--` nor an option
pub record IsOperand (word : Text) : Type 0 where
  pub no_dashes : bytes_eq word (45 ∷ 45 ∷ []) ≡ false
  pub no_long : long_of word ≡ None
  pub no_short : short_of word ≡ None

-- the words lead from one walk to another, and none has a fault
pub record WalksTo (s : Shape) (from : Walk) (words : List Text) (to : Walk) : Type 0 where
  pub walk : fold (walked s.rules []) from words ≡ to
  pub fine : walk_fault s [] from words ≡ []

pub at_end : (s : Shape) (w : Walk) → WalksTo s w [] w
unfolding walk_fault
at_end s w = record { walk = refl; fine = refl }

-- one word, and then the others
pub then_word : (s : Shape) (w next to : Walk) (word : Text) (rest : List Text) → walked s.rules [] w word ≡ next → turn_fault s [] w word ≡ [] → WalksTo s next rest to
    → WalksTo s w (word ∷ rest) to
unfolding walk_fault
then_word s w next to word rest step turn leads = record {
  walk = ap (λ (v : Walk). fold (walked s.rules []) v rest) step ∙ leads.walk;
  fine = ap₂ (λ (k : Kinds) (v : Walk). or_else k (walk_fault s [] v rest)) turn step ∙ leads.fine;
}

-- the walk after an operand
abbrev pub after_operand : List Rule → Walk → Text → Walk
after_operand c w word =
    after_step c word w (plain_word c w.waiting word w.held).0 (plain_word c w.waiting word w.held).1

no_subcommand : (waiting : Waiting) (word : Text) → subcommand_met [] waiting word ≡ None
no_subcommand idle word = refl
no_subcommand (option id) word = refl
no_subcommand positional word = refl

operand_met : (c : List Rule) (waiting : Waiting) (position : ℕ) (word : Text) (h : Held) → IsOperand word → word_met c [] false waiting position word h ≡ plain_word c waiting word h
operand_met c waiting position word h is = rw (no_subcommand waiting word, is.no_dashes, is.no_long, is.no_short) refl

operand_fine : (s : Shape) (waiting : Waiting) (word : Text) (h : Held) → IsOperand word → word_fault s [] false waiting word h ≡ []
operand_fine s waiting word h is = rw (no_subcommand waiting word, is.no_dashes, is.no_long, is.no_short) refl

-- one operand, and then the other words
pub then_operand : (s : Shape) (w to : Walk) (word : Text) (rest : List Text) → IsOperand word → w.is_trailing ≡ false → w.stopped ≡ None
    → step_fault s w.position (plain_word s.rules w.waiting word w.held).0 (plain_word s.rules w.waiting word w.held).1 ≡ []
    → WalksTo s (after_operand s.rules w word) rest to → WalksTo s w (word ∷ rest) to
unfolding walked
then_operand s w to word rest is free on fine leads =
    let met : word_met s.rules [] w.is_trailing w.waiting w.position word w.held ≡ plain_word s.rules w.waiting word w.held =
    ap (λ t. word_met s.rules [] t w.waiting w.position word w.held) free ∙ operand_met s.rules w.waiting w.position word w.held is in
    let step : walked s.rules [] w word ≡ after_operand s.rules w word =
    ap (λ o. walked_from s.rules [] o w word) on ∙ ap (λ (m : Held × Step). after_step s.rules word w m.0 m.1) met in
    let turn : turn_fault s [] w word ≡ [] =
    ap (λ o. cond (is_some o) [] (or_else (word_fault s [] w.is_trailing w.waiting word w.held) (step_fault s w.position (word_met s.rules [] w.is_trailing w.waiting w.position word w.held).0 (word_met s.rules [] w.is_trailing w.waiting w.position word w.held).1))) on
    ∙ ap₂ or_else (ap (λ t. word_fault s [] t w.waiting word w.held) free ∙ operand_fine s w.waiting word w.held is)
    (ap (λ (m : Held × Step). step_fault s w.position m.0 m.1) met ∙ fine) in
    then_word s w (after_operand s.rules w word) to word rest step turn leads

-- ---- the faults found after all arguments

-- the fault of a subcommand's own words
abbrev pub own_fault : Shape → List Text → Kinds
own_fault s rest = level_fault s [] nothing_held rest false []

-- the fault of a subcommand whose arguments lead to this walk
abbrev pub fault_at : Shape → Walk → Kinds
fault_at s w = or_else (settle_fault s.rules s.args_override_self w.held)
    (or_else (defaults_fault (settled s.rules w.held).rows s.rules) (check_fault s (finished s.rules w.held) false))

-- the pending argument has no fault, and the checks after it find none
pub finished_well : (s : Shape) (w : Walk) → settle_fault s.rules s.args_override_self w.held ≡ []
    → or_else (defaults_fault (settled s.rules w.held).rows s.rules) (check_fault s (finished s.rules w.held) false) ≡ [] → fault_at s w ≡ []
finished_well s w settle rest =
    ap (λ k. or_else k (or_else (defaults_fault (settled s.rules w.held).rows s.rules) (check_fault s (finished s.rules w.held) false))) settle ∙ rest

abbrev fault_after_turns : Shape → Walk → Kinds → Kinds
fault_after_turns s w turns = or_else turns (fault_at s w)

pub own_fault_is : (s : Shape) (rest : List Text) (to : Walk) → WalksTo s (walk_from nothing_held) rest to → own_fault s rest ≡ fault_at s to
own_fault_is s rest to leads = ap₂ (fault_after_turns s) leads.walk leads.fine

pub rows_are : (s : Shape) (rest : List Text) (to : Walk) → WalksTo s (walk_from nothing_held) rest to → rows_at s rest ≡ (s.name, finished s.rules to.held)
rows_are s rest to leads = ap (λ (w : Walk). (s.name, finished s.rules w.held)) leads.walk
