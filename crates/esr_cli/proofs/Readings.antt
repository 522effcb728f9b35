-- The results of `clap`'s getters.
use Rattle.std.proofs.Common.{◌≡◌, ◌≢◌, ◌^◌, ◌<◌, ℕ, Bool, cond, codes, true, false, refl, ap, List, Option, Some, None, Result, Ok, Err, arith, option_and_then, bytes_eq}
use Rattle.std.specs.Str.Parse.{IsNumeral, ParsesBool, ParsesUnsigned, digits_value, without_leading_plus}
use Rattle.std.proofs.lemmas.Slice.Eq.{bytes_eq-Decides}
use Rattle.clap.specs.Matches.{ReadsOne}
use Rattle.clap.specs.Walk.{Text}
use Rattle.clap.specs.ValueTests.{is_unsigned_in}
use Rattle.clap.specs.declared.builder.value_parser.ValueParser.TheVariants.{Unsigned}
use Rattle.clap.proofs.ValueTestLemmas.{Accepts-accepts, accepts-Accepts}
use Rattle.esr_cli.specs.Job.{parsed_bool, parsed_number}

-- a number is read if the text fits 64 bits
pub number_read : (E : Type 0) (G : List ℕ → Result ℕ E → Type 0) → ((u : List ℕ) (x : Result ℕ E) → G u x → ParsesUnsigned 64 10 u x)
    → (o : Option Text) (r : Option ℕ) → (o ≡ None → r ≡ None) → ((t : List ℕ) → o ≡ Some t → ReadsOne G t r) → r ≡ option_and_then parsed_number o
number_read E G only None r none value = none refl
number_read E G only (Some t) r none value = go r (value t refl)
  where
    fits : IsNumeral 10 (without_leading_plus t) × (digits_value 10 (without_leading_plus t) < 2 ^ 64) → is_unsigned_in 0 18446744073709551615 t ≡ true
    fits h = Accepts-accepts false (Unsigned 0 18446744073709551615) t (h.0, h.1, omega arith, omega arith)

    wrong : (b : Bool) → is_unsigned_in 0 18446744073709551615 t ≡ b → (IsNumeral 10 (without_leading_plus t) × (digits_value 10 (without_leading_plus t) < 2 ^ 64) → ⊥)
        → None ≡ cond b (Some (digits_value 10 (without_leading_plus t))) None
    wrong true is never = let h = accepts-Accepts false (Unsigned 0 18446744073709551615) t is in absurd (never (h.0, h.1))
    wrong false is never = refl

    go : (r : Option ℕ) → ReadsOne G t r → r ≡ parsed_number t
    go (Some v) read = let parsed = only t (Ok v) read in rw (fits parsed.0) (ap (λ n. Some n) parsed.1)
    go None read = wrong (is_unsigned_in 0 18446744073709551615 t) refl (only t (Err read.0) read.1)

-- a flag is read if the text is `true` or `false`
pub bool_read : (E : Type 0) → (o : Option Text) (r : Option Bool) → (o ≡ None → r ≡ None) → ((t : List ℕ) → o ≡ Some t → ReadsOne {T = Bool} {E = E} ParsesBool t r)
    → r ≡ option_and_then parsed_bool o
bool_read E None r none value = none refl
bool_read E (Some t) r none value = go r (value t refl)
  where
    wrong : (a b : Bool) → bytes_eq t (codes "true") ≡ a → bytes_eq t (codes "false") ≡ b → t ≢ codes "true" → t ≢ codes "false"
        → None ≡ cond a (Some true) (cond b (Some false) None)
    wrong true b is other not_true not_false = absurd (not_true ((bytes_eq-Decides t (codes "true")).0 is))
    wrong false true is other not_true not_false = absurd (not_false ((bytes_eq-Decides t (codes "false")).0 other))
    wrong false false is other not_true not_false = refl

    go : (r : Option Bool) → ReadsOne {T = Bool} {E = E} ParsesBool t r → r ≡ parsed_bool t
    go (Some true) read = rw read refl
    go (Some false) read = rw read refl
    go None read = wrong (bytes_eq t (codes "true")) (bytes_eq t (codes "false")) refl refl read.1.0 read.1.1
