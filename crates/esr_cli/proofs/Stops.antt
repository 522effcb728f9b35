-- A walk over arguments without a fault never stops at `help`.
use Rattle.std.proofs.Common.{◌≡◌, ℕ, Bool, cond, codes, true, false, refl, sym, ap, subst, List, [], ◌∷◌, Option, Some, None, IfSome, is_some, true≢false, fold, bytes_eq}
use Rattle.clap.specs.Lexer.{long_of, short_of}
use Rattle.clap.specs.Walk.{Held, Names, Outcome, Rule, Step, Text, Waiting, Walk, after_flag, after_step, arg_by_index, arg_by_long, bundle, idle, long_met, long_or_other, plain_word, short_or_plain, subcommand_met, subcommand_or_other, to_positional, walked, walked_from, word_met, plain, refused, trailing, subcommand, value}
use Rattle.clap.specs.Simple.{Shape}
use Rattle.clap.specs.Kinds.{Kinds, or_else}
use Rattle.clap.specs.Faults.{other_fault, turn_fault, walk_fault, word_fault}
use Rattle.clap.specs.declared.error.kind.ErrorKind.TheVariants as kind

abbrev pub help : Text
help = codes "help"

-- the walk continues, or it stopped at another name
abbrev pub StopsElsewhere : Option (Text × List Text) → Type 0
StopsElsewhere stop = IfSome stop (λ p. bytes_eq p.0 help ≡ false)

abbrev Continues : Step → Type 0
Continues (subcommand name) = ⊥
Continues _ = Unit {0}

pub first_none : (a b : Kinds) → or_else a b ≡ [] → a ≡ []
first_none [] b none = refl
first_none (k ∷ ks) b none = none

pub then_none : (a b : Kinds) → or_else a b ≡ [] → b ≡ []
then_none [] b none = none
then_none (k ∷ ks) b none = absurd (cc)

plain_continues : (c : List Rule) (waiting : Waiting) (word : Text) (h : Held) → Continues (plain_word c waiting word h).1
plain_continues c idle word h = tt
plain_continues c _ word h = tt

flag_continues : (c : List Rule) (waiting : Waiting) (word : Text) (h : Held) (o : Outcome) → Continues (after_flag c waiting word h o).1
flag_continues c waiting word h plain = plain_continues c waiting word h
flag_continues c waiting word h refused = plain_continues c waiting word h
flag_continues c waiting word h _ = tt

short_continues : (c : List Rule) (waiting : Waiting) (word : Text) (flags : Option Text) (h : Held) → Continues (short_or_plain c waiting word flags h).1
short_continues c waiting word (Some flags) h = flag_continues c waiting word (bundle c flags h).0 (bundle c flags h).1
short_continues c waiting word None h = plain_continues c waiting word h

long_continues : (c : List Rule) (waiting : Waiting) (word : Text) (long : Option (Text × Option Text)) (h : Held) → Continues (long_or_other c waiting word long h).1
long_continues c waiting word (Some p) h = flag_continues c waiting word (long_met c (arg_by_long c p.0) p.1 h).0 (long_met c (arg_by_long c p.0) p.1 h).1
long_continues c waiting word None h = short_continues c waiting word (short_of word) h

other_continues : (c : List Rule) (waiting : Waiting) (position : ℕ) (word : Text) (h : Held) → Continues (subcommand_or_other c None waiting position word h).1
other_continues c waiting position word h = go (bytes_eq word (45 ∷ 45 ∷ []))
  where
    go : (b : Bool) → Continues (cond b (h, trailing position) (long_or_other c waiting word (long_of word) h)).1
    go true = tt
    go false = long_continues c waiting word (long_of word) h

to_positional_continues : (c : List Rule) (a : Option Rule) (word : Text) (w : Walk) (h : Held) → w.stopped ≡ None → (to_positional c a word w h).stopped ≡ None
to_positional_continues c None word w h on = on
to_positional_continues c (Some a) word w h on = refl

step_continues : (c : List Rule) (word : Text) (w : Walk) (h : Held) (step : Step) → w.stopped ≡ None → Continues step → (after_step c word w h step).stopped ≡ None
step_continues c word w h (subcommand name) on continues = absurd continues
step_continues c word w h value on continues = to_positional_continues c (arg_by_index c w.position) word w h on
step_continues c word w h _ on continues = on

elsewhere : (stop : Option (Text × List Text)) → stop ≡ None → StopsElsewhere stop
elsewhere stop on = subst StopsElsewhere (sym on) tt

-- an argument that is met, and has no fault, does not request help
met_elsewhere : (s : Shape) (met : Option Text) (waiting : Waiting) (word : Text) (w : Walk) → w.stopped ≡ None → s.disable_help_subcommand ≡ false
    → other_fault s met word w.held ≡ []
    → StopsElsewhere (after_step s.rules word w (subcommand_or_other s.rules met waiting w.position word w.held).0 (subcommand_or_other s.rules met waiting w.position word w.held).1).stopped
met_elsewhere s (Some name) waiting word w on enabled none = go (bytes_eq name help) refl
  where
    go : (b : Bool) → b ≡ bytes_eq name help → bytes_eq name help ≡ false
    go false is = sym is
    go true is = let calls : other_fault s (Some name) word w.held ≡ kind.DisplayHelp ∷ kind.InvalidSubcommand ∷ [] = rw (← is, enabled) refl in absurd (cc)
met_elsewhere s None waiting word w on enabled none =
    elsewhere _ (step_continues s.rules word w _ _ on (other_continues s.rules waiting w.position word w.held))

turn_elsewhere : (s : Shape) (names : Names) (trails : Bool) (word : Text) (w : Walk) → w.stopped ≡ None → s.disable_help_subcommand ≡ false
    → word_fault s names trails w.waiting word w.held ≡ []
    → StopsElsewhere (after_step s.rules word w (word_met s.rules names trails w.waiting w.position word w.held).0 (word_met s.rules names trails w.waiting w.position word w.held).1).stopped
turn_elsewhere s names true word w on enabled none = elsewhere _ (step_continues s.rules word w w.held value on tt)
turn_elsewhere s names false word w on enabled none = met_elsewhere s (subcommand_met names w.waiting word) w.waiting word w on enabled none

not_stopped : (b : Bool) (kinds : Kinds) → b ≡ false → cond b [] kinds ≡ [] → kinds ≡ []
not_stopped true kinds on none = absurd (true≢false on)
not_stopped false kinds on none = none

word_elsewhere : (s : Shape) (names : Names) (w : Walk) (word : Text) → s.disable_help_subcommand ≡ false → StopsElsewhere w.stopped → turn_fault s names w word ≡ []
    → StopsElsewhere (walked s.rules names w word).stopped
unfolding walked
word_elsewhere s names w word enabled from none = go w.stopped refl
  where
    go : (stop : Option (Text × List Text)) → stop ≡ w.stopped → StopsElsewhere (walked_from s.rules names stop w word).stopped
    go None is = turn_elsewhere s names w.is_trailing word w (sym is) enabled (first_none _ _ (not_stopped (is_some w.stopped) _ (ap is_some (sym is)) none))
    go (Some p) is = subst StopsElsewhere (sym is) from

-- a walk in which no word has a fault stops at no call for help
pub walk_elsewhere : (s : Shape) (names : Names) (w : Walk) (words : List Text) → s.disable_help_subcommand ≡ false → StopsElsewhere w.stopped → walk_fault s names w words ≡ []
    → StopsElsewhere (fold (walked s.rules names) w words).stopped
unfolding walk_fault
walk_elsewhere s names w [] enabled from none = from
walk_elsewhere s names w (word ∷ rest) enabled from none =
    walk_elsewhere s names (walked s.rules names w word) rest enabled (word_elsewhere s names w word enabled from (first_none _ _ none)) (then_none _ _ none)
