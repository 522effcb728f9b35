-- The effect of charges on accounts.
use Rattle.std.proofs.Common.{◌≡◌, ℕ, zero, suc, ◌+◌, ◌-◌, ◌<◌, ◌≤◌, ◌^◌, ◌*◌, List, [], ◌∷◌, ◌++◌, length, Bool, true, false, not, ◌==◌, refl, sym, ◌∙◌, ap, subst, arith, inl, inr, Option, None, Some, if◌then◌else◌, nat_lt, Some, get_or, set, take, is_some, find, sum_by, unwrap_or, All, option_map, map}
use Rattle.std.specs.List.{AllByRecursion, insert}
use Rattle.std.proofs.lemmas.Bool.{cases_Bool, cases_eq, cases_lt, lt-ltb, le-ltb, eq-eqb, ne_eqb, false≢true, ltb-false, not-true, or_left, or_right}
use Rattle.std.proofs.lemmas.List.{take_more}
use Rattle.std.proofs.lemmas.List.Sums.{sum_by-cons, sum_by-le, sum_by-insert}
use Rattle.std.proofs.lemmas.List.Elements.{All-from_recursion, recursion_from_All, All-weaker}
use Rattle.esr_base.specs.declared.numbers.TxnId.{TxnId}
use Rattle.esr_history.specs.Ascending.{IsAscendingBy, IsPlaceOf}
use Rattle.esr_history.proofs.Ascending.{place_tail, placed_ascends, all_placed}
use Rattle.esr_history.specs.Events.{is_query_kind}
use Rattle.esr_ledgers.specs.Books.{number, account_of, is_open, is_open_query, is_open_update, limit_at, account_amount, total_of, would_pass, raised, lowered, charged_to_queries, charged, imports, exports, IsWithinLimit, AreBooks, AreCharges, with_account, quoted, quote_of, Account, Fits}
use Rattle.esr_history.proofs.Lists.{find_none_all}

abbrev more : ℕ → Account → Account
more n a = record a { amount = a.amount + n }

abbrev import_of : Account → ℕ
import_of a = if is_query_kind a.kind then a.amount else 0

abbrev export_of : Account → ℕ
export_of a = if is_query_kind a.kind then 0 else a.amount

-- an account that was opened as a query or as an update was opened
open_where : (p : Account → Bool) (t : ℕ) (xs : List Account) → unwrap_or (option_map p (account_of xs t)) false ≡ true → is_open xs t ≡ true
open_where p t [] is = absurd (false≢true is)
open_where p t (x ∷ xs) is =
    elim (cases_Bool (number x == t)) [
      | inl e ↦ or_left (number x == t) (is_open xs t) e
      | inr ne ↦ or_right (number x == t) (is_open xs t) (open_where p t xs (rw ne at is))
    ]

pub query_open : (t : ℕ) (xs : List Account) → is_open_query xs t ≡ true → is_open xs t ≡ true
query_open = open_where (λ a. is_query_kind a.kind)

pub update_open : (t : ℕ) (xs : List Account) → is_open_update xs t ≡ true → is_open xs t ≡ true
update_open = open_where (λ a. not (is_query_kind a.kind))

-- a change of the account of one number
module _ (t : ℕ) (f : Account → Account) where
  abbrev changed : List Account → List Account
  changed xs = map (λ a. if number a == t then f a else a) xs

  changed_above : (xs : List Account) → AllByRecursion (λ y. t < number y) xs → changed xs ≡ xs
  changed_above [] all = refl
  changed_above (x ∷ xs) all =
      let l : t < number x = all.0 in
      rw (ne_eqb (number x) t (λ (e : number x ≡ t). omega arith)) (ap (λ ys. x ∷ ys) (changed_above xs all.1))

  changed_later : (x : Account) (xs : List Account) → number x ≡ t → AllByRecursion (λ y. number x < number y) xs → changed xs ≡ xs
  changed_later x xs e all = changed_above xs (subst (λ k. AllByRecursion (λ y. k < number y) xs) e all)

  -- the account at the number's place
  changed_at : (xs : List Account) (i : ℕ) (d : Account) → IsAscendingBy number xs → IsPlaceOf number xs t i → set xs i (f (get_or xs i d)) ≡ changed xs
  changed_at [] i d asc place = absurd (omega (arith, place.in_range))
  changed_at (x ∷ xs) zero d asc place =
      let h : number x ≡ t = place.has_number d in
      rw (eq-eqb (number x) t h) (ap (λ ys. f x ∷ ys) (sym (changed_later x xs h asc.0)))
  changed_at (x ∷ xs) (suc i) d asc place =
      let h : number (get_or xs i d) ≡ t = place.has_number d in
      let r : number x < number (get_or xs i d) = All-from_recursion (λ y. number x < number y) xs asc.0 i d (omega (arith, place.in_range)) in
      rw (ne_eqb (number x) t (λ (e : number x ≡ t). omega arith)) (ap (λ ys. x ∷ ys) (changed_at xs i d asc.1 (place_tail number x xs t i place)))

module _ (t n : ℕ) where
  later : (x : Account) (xs : List Account) → number x ≡ t → AllByRecursion (λ y. number x < number y) xs → raised t n xs ≡ xs
  later = changed_later t (more n)

  pub raised_at : (xs : List Account) (i : ℕ) (d : Account) → IsAscendingBy number xs → IsPlaceOf number xs t i → set xs i (more n (get_or xs i d)) ≡ raised t n xs
  raised_at = changed_at t (more n)

  pub lowered_at : (xs : List Account) (i : ℕ) (d : Account) → IsAscendingBy number xs → IsPlaceOf number xs t i → set xs i (record (get_or xs i d) { amount = (get_or xs i d).amount - n }) ≡ lowered t n xs
  lowered_at = changed_at t (λ a. record a { amount = a.amount - n })

  -- an amount that was added is subtracted
  pub lowered_raised : (xs : List Account) → lowered t n (raised t n xs) ≡ xs
  lowered_raised [] = refl
  lowered_raised (x ∷ xs) =
      elim (cases_Bool (number x == t)) [
        | inl here ↦
            let same : x.amount + n - n ≡ x.amount = omega arith in
            rw (here, here) (ap (λ m. record x { amount = m } ∷ lowered t n (raised t n xs)) same ∙ ap (λ ys. x ∷ ys) (lowered_raised xs))
        | inr away ↦ rw (away, away) (ap (λ ys. x ∷ ys) (lowered_raised xs))
      ]

  pub raised_enough : (xs : List Account) → is_open xs t ≡ true → n ≤ account_amount (raised t n xs) t
  raised_enough [] is = absurd (false≢true is)
  raised_enough (x ∷ xs) is =
      elim (cases_Bool (number x == t)) [
        | inl here ↦ rw (here, here) (omega arith)
        | inr away ↦ rw (away, away) (raised_enough xs (rw away at is))
      ]

  pub open_raised : (s : ℕ) (xs : List Account) → is_open xs s ≡ true → is_open (raised t n xs) s ≡ true
  open_raised s [] is = is
  open_raised s (x ∷ xs) is =
      elim (cases_Bool (number x == s)) [
        | inl here ↦ or_left (number (if number x == t then more n x else x) == s) (is_open (raised t n xs) s) (ap (λ k. k == s) (number_same x) ∙ here)
        | inr away ↦ or_right (number (if number x == t then more n x else x) == s) (is_open (raised t n xs) s) (open_raised s xs (rw away at is))
      ]
    where
      number_same : (x : Account) → number (if number x == t then more n x else x) ≡ number x
      number_same x = at (number x == t)
        where
          at : (b : Bool) → number (if b then more n x else x) ≡ number x
          at true = refl
          at false = refl

  number_stays : (x : Account) → number (if number x == t then more n x else x) ≡ number x
  number_stays x = at (number x == t)
    where
      at : (b : Bool) → number (if b then more n x else x) ≡ number x
      at true = refl
      at false = refl

  above_raised : (a : ℕ) (xs : List Account) → AllByRecursion (λ y. a < number y) xs → AllByRecursion (λ y. a < number y) (raised t n xs)
  above_raised a [] all = tt
  above_raised a (x ∷ xs) all = (subst (λ k. a < k) (sym (number_stays x)) all.0, above_raised a xs all.1)

  pub raised_ascends : (xs : List Account) → IsAscendingBy number xs → IsAscendingBy number (raised t n xs)
  raised_ascends [] asc = tt
  raised_ascends (x ∷ xs) asc =
      (subst (λ k. AllByRecursion (λ y. k < number y) (raised t n xs)) (sym (number_stays x)) (above_raised (number x) xs asc.0), raised_ascends xs asc.1)

  -- other accounts stay
  pub account_raised_other : (s : ℕ) → (s ≡ t → ⊥) → (xs : List Account) → account_of (raised t n xs) s ≡ account_of xs s
  account_raised_other s other [] = refl
  account_raised_other s other (x ∷ xs) =
      elim (cases_eq (number x) t) [
        | inl e ↦ rw (eq-eqb (number x) t e, ne_eqb (number x) s (λ (f : number x ≡ s). other (sym f ∙ e))) (account_raised_other s other xs)
        | inr ne ↦ rw (ne_eqb (number x) t ne) (elim (cases_Bool (number x == s)) [
          | inl here ↦ rw here refl
          | inr away ↦ rw away (account_raised_other s other xs)
        ])
      ]

  pub within_raised : (xs : List Account) → IsAscendingBy number xs → AllByRecursion IsWithinLimit xs → account_amount xs t + n ≤ limit_at xs t → AllByRecursion IsWithinLimit (raised t n xs)
  within_raised [] asc all fits = tt
  within_raised (x ∷ xs) asc all fits =
      elim (cases_eq (number x) t) [
        | inl e ↦
            let spare_capacity : x.amount + n ≤ x.limit = rw (eq-eqb (number x) t e) at fits in
            rw (eq-eqb (number x) t e, later x xs e asc.0) ((spare_capacity, all.0.1), all.1)
        | inr ne ↦ rw (ne_eqb (number x) t ne) (all.0, within_raised xs asc.1 all.1 (rw (ne_eqb (number x) t ne) at fits))
      ]

  -- raising one account raises the sum by the same amount
  pub imports_raised_query : (xs : List Account) → IsAscendingBy number xs → is_open_query xs t ≡ true → (imports (raised t n xs) ≡ imports xs + n) × (exports (raised t n xs) ≡ exports xs)
  imports_raised_query [] asc is = absurd (false≢true is)
  imports_raised_query (x ∷ xs) asc is =
      elim (cases_eq (number x) t) [
        | inl e ↦
            let q : is_query_kind x.kind ≡ true = rw (eq-eqb (number x) t e) at is in
            let one : import_of (more n x) ≡ import_of x + n = rw q refl in
            let none : export_of (more n x) ≡ export_of x = rw q refl in
            rw (eq-eqb (number x) t e, later x xs e asc.0)
            (omega (arith, one, sum_by-cons import_of (more n x) xs, sum_by-cons import_of x xs), omega (arith, none, sum_by-cons export_of (more n x) xs, sum_by-cons export_of x xs))
        | inr ne ↦
            let rest : (imports (raised t n xs) ≡ imports xs + n) × (exports (raised t n xs) ≡ exports xs) = imports_raised_query xs asc.1 (rw (ne_eqb (number x) t ne) at is) in
            rw (ne_eqb (number x) t ne)
            (omega (arith, rest.0, sum_by-cons import_of x (raised t n xs), sum_by-cons import_of x xs), omega (arith, rest.1, sum_by-cons export_of x (raised t n xs), sum_by-cons export_of x xs))
      ]

  pub exports_raised_update : (xs : List Account) → IsAscendingBy number xs → is_open_update xs t ≡ true → (imports (raised t n xs) ≡ imports xs) × (exports (raised t n xs) ≡ exports xs + n)
  exports_raised_update [] asc is = absurd (false≢true is)
  exports_raised_update (x ∷ xs) asc is =
      elim (cases_eq (number x) t) [
        | inl e ↦
            let q : is_query_kind x.kind ≡ false = not-true (is_query_kind x.kind) (rw (eq-eqb (number x) t e) at is) in
            let none : import_of (more n x) ≡ import_of x = rw q refl in
            let one : export_of (more n x) ≡ export_of x + n = rw q refl in
            rw (eq-eqb (number x) t e, later x xs e asc.0)
            (omega (arith, none, sum_by-cons import_of (more n x) xs, sum_by-cons import_of x xs), omega (arith, one, sum_by-cons export_of (more n x) xs, sum_by-cons export_of x xs))
        | inr ne ↦
            let rest : (imports (raised t n xs) ≡ imports xs) × (exports (raised t n xs) ≡ exports xs + n) = exports_raised_update xs asc.1 (rw (ne_eqb (number x) t ne) at is) in
            rw (ne_eqb (number x) t ne)
            (omega (arith, rest.0, sum_by-cons import_of x (raised t n xs), sum_by-cons import_of x xs), omega (arith, rest.1, sum_by-cons export_of x (raised t n xs), sum_by-cons export_of x xs))
      ]

-- one more charge
pub charged_to_queries-push : (xs : List Account) (cs : List (TxnId × ℕ)) (c : TxnId × ℕ) → charged_to_queries xs (cs ++ c ∷ []) ≡ raised c.0.0 c.1 (charged_to_queries xs cs)
charged_to_queries-push xs [] c = refl
charged_to_queries-push xs (b ∷ cs) c = charged_to_queries-push (raised b.0.0 b.1 xs) cs c

-- and the last of some charges
pub charged_more : (xs : List Account) (cs : List (TxnId × ℕ)) (i : ℕ) (d : TxnId × ℕ) → i < length cs
    → charged_to_queries xs (take (i + 1) cs) ≡ raised (get_or cs i d).0.0 (get_or cs i d).1 (charged_to_queries xs (take i cs))
charged_more xs cs i d l = ap (charged_to_queries xs) (take_more cs i d l) ∙ charged_to_queries-push xs (take i cs) (get_or cs i d)

pub charged_last : (xs : List Account) (cs : List (TxnId × ℕ)) (i : ℕ) (d : TxnId × ℕ) → 0 < i → i ≤ length cs
    → charged_to_queries xs (take i cs) ≡ raised (get_or cs (i - 1) d).0.0 (get_or cs (i - 1) d).1 (charged_to_queries xs (take (i - 1) cs))
charged_last xs cs i d low high =
    let same : i ≡ i - 1 + 1 = omega arith in
    ap (λ n. charged_to_queries xs (take n cs)) same ∙ charged_more xs cs (i - 1) d (omega arith)

pub imported_ascends : (cs : List (TxnId × ℕ)) (xs : List Account) → IsAscendingBy number xs → IsAscendingBy number (charged_to_queries xs cs)
imported_ascends [] xs asc = asc
imported_ascends (c ∷ cs) xs asc = imported_ascends cs (raised c.0.0 c.1 xs) (raised_ascends c.0.0 c.1 xs asc)

-- accounts stay open
pub open_imported : (s : ℕ) (cs : List (TxnId × ℕ)) (xs : List Account) → is_open xs s ≡ true → is_open (charged_to_queries xs cs) s ≡ true
open_imported s [] xs is = is
open_imported s (c ∷ cs) xs is = open_imported s cs (raised c.0.0 c.1 xs) (open_raised c.0.0 c.1 s xs is)

-- a limit is passed if and only if that of the same account is
pub same_pass : (xs ys : List Account) (t n : ℕ) → account_of xs t ≡ account_of ys t → would_pass xs t n ≡ would_pass ys t n
same_pass xs ys t n same = ap (λ (a : Option Account). nat_lt (unwrap_or (option_map (λ (e : Account). e.limit) a) 0) (unwrap_or (option_map (λ (e : Account). e.amount) a) 0 + n)) same

-- a transaction that is not charged keeps its account
pub account_imported_other : (s : ℕ) (cs : List (TxnId × ℕ)) (xs : List Account) → AllByRecursion (λ c. s ≡ c.0.0 → ⊥) cs → account_of (charged_to_queries xs cs) s ≡ account_of xs s
account_imported_other s [] xs others = refl
account_imported_other s (c ∷ cs) xs others = account_imported_other s cs (raised c.0.0 c.1 xs) others.1 ∙ account_raised_other c.0.0 c.1 s others.0 xs

-- at its turn a query's account is as at first
others_before : (cs : List (TxnId × ℕ)) → IsAscendingBy (λ (c : TxnId × ℕ). c.0.0) cs → (i : ℕ) (d : TxnId × ℕ) → i < length cs → AllByRecursion (λ (c : TxnId × ℕ). (get_or cs i d).0.0 ≡ c.0.0 → ⊥) (take i cs)
others_before [] asc i d l = absurd (omega arith)
others_before (c ∷ cs) asc zero d l = tt
others_before (c ∷ cs) asc (suc i) d l =
    let r : c.0.0 < (get_or cs i d).0.0 = All-from_recursion (λ (b : TxnId × ℕ). c.0.0 < b.0.0) cs asc.0 i d (omega arith) in
    ((λ (e : (get_or cs i d).0.0 ≡ c.0.0). omega arith), others_before cs asc.1 i d (omega arith))

pub account_at_turn : (xs : List Account) (cs : List (TxnId × ℕ)) → IsAscendingBy (λ (c : TxnId × ℕ). c.0.0) cs → (i : ℕ) (d : TxnId × ℕ) → i < length cs
    → account_of (charged_to_queries xs (take i cs)) (get_or cs i d).0.0 ≡ account_of xs (get_or cs i d).0.0
account_at_turn xs cs asc i d l = account_imported_other (get_or cs i d).0.0 (take i cs) xs (others_before cs asc i d l)

-- charges whose queries have accounts and stay within their limits
pub record AreImports (xs : List Account) (cs : List (TxnId × ℕ)) : Type 0 where
  pub ascending : IsAscendingBy (λ (c : TxnId × ℕ). c.0.0) cs
  pub queries : AllByRecursion (λ (c : TxnId × ℕ). is_open_query xs c.0.0 ≡ true) cs
  pub fit : AllByRecursion (λ (c : TxnId × ℕ). account_amount xs c.0.0 + c.1 ≤ limit_at xs c.0.0) cs

imports_tail : (xs : List Account) (c : TxnId × ℕ) (cs : List (TxnId × ℕ)) → AreImports xs (c ∷ cs) → AreImports (raised c.0.0 c.1 xs) cs
imports_tail xs c cs are = record {
  ascending = are.ascending.1;
  queries = carry (λ a. unwrap_or (option_map (λ b. is_query_kind b.kind) a) false ≡ true) cs are.ascending.0 are.queries.1;
  fit = fits cs are.ascending.0 are.fit.1;
}
  where
    other : (b : TxnId × ℕ) → c.0.0 < b.0.0 → account_of (raised c.0.0 c.1 xs) b.0.0 ≡ account_of xs b.0.0
    other b l = account_raised_other c.0.0 c.1 b.0.0 (λ (e : b.0.0 ≡ c.0.0). omega arith) xs

    carry : (P : Option Account → Type 0) (bs : List (TxnId × ℕ)) → AllByRecursion (λ (b : TxnId × ℕ). c.0.0 < b.0.0) bs → AllByRecursion (λ (b : TxnId × ℕ). P (account_of xs b.0.0)) bs → AllByRecursion (λ (b : TxnId × ℕ). P (account_of (raised c.0.0 c.1 xs) b.0.0)) bs
    carry P [] low all = tt
    carry P (b ∷ bs) low all = (subst P (sym (other b low.0)) all.0, carry P bs low.1 all.1)

    fits : (bs : List (TxnId × ℕ)) → AllByRecursion (λ (b : TxnId × ℕ). c.0.0 < b.0.0) bs → AllByRecursion (λ (b : TxnId × ℕ). account_amount xs b.0.0 + b.1 ≤ limit_at xs b.0.0) bs → AllByRecursion (λ (b : TxnId × ℕ). account_amount (raised c.0.0 c.1 xs) b.0.0 + b.1 ≤ limit_at (raised c.0.0 c.1 xs) b.0.0) bs
    fits [] low all = tt
    fits (b ∷ bs) low all =
        (subst (λ (a : Option Account). unwrap_or (option_map (λ (e : Account). e.amount) a) 0 + b.1 ≤ unwrap_or (option_map (λ (e : Account). e.limit) a) 0) (sym (other b low.0)) all.0, fits bs low.1 all.1)

-- the books after the imports
pub within_imported : (cs : List (TxnId × ℕ)) (xs : List Account) → AreImports xs cs → IsAscendingBy number xs → AllByRecursion IsWithinLimit xs → AllByRecursion IsWithinLimit (charged_to_queries xs cs)
within_imported [] xs are asc all = all
within_imported (c ∷ cs) xs are asc all =
    within_imported cs (raised c.0.0 c.1 xs) (imports_tail xs c cs are) (raised_ascends c.0.0 c.1 xs asc) (within_raised c.0.0 c.1 xs asc all are.fit.0)

pub imports_imported : (cs : List (TxnId × ℕ)) (xs : List Account) → AreImports xs cs → IsAscendingBy number xs → (imports (charged_to_queries xs cs) ≡ imports xs + total_of cs) × (exports (charged_to_queries xs cs) ≡ exports xs)
imports_imported [] xs are asc = (omega arith, refl)
imports_imported (c ∷ cs) xs are asc =
    let one = imports_raised_query c.0.0 c.1 xs asc are.queries.0 in
    let rest = imports_imported cs (raised c.0.0 c.1 xs) (imports_tail xs c cs are) (raised_ascends c.0.0 c.1 xs asc) in
    let sum = sum_by-cons (λ (b : TxnId × ℕ). b.1) c cs in
    (rest.0 ∙ (ap (λ m. m + total_of cs) one.0 ∙ (let s : imports xs + c.1 + total_of cs ≡ imports xs + (c.1 + total_of cs) = omega arith in s ∙ ap (λ m. imports xs + m) (sym sum))), rest.1 ∙ one.1)

-- an update's account is none of a query
pub not_charged : (xs : List Account) (u : ℕ) (cs : List (TxnId × ℕ)) → is_open_update xs u ≡ true → AllByRecursion (λ (c : TxnId × ℕ). is_open_query xs c.0.0 ≡ true) cs → AllByRecursion (λ (c : TxnId × ℕ). u ≡ c.0.0 → ⊥) cs
not_charged xs u [] is all = tt
not_charged xs u (c ∷ cs) is all =
    ((λ (e : u ≡ c.0.0). both (account_of xs c.0.0) (subst (λ k. is_open_update xs k ≡ true) e is) all.0), not_charged xs u cs is all.1)
  where
    both : (a : Option Account) → unwrap_or (option_map (λ b. not (is_query_kind b.kind)) a) false ≡ true → unwrap_or (option_map (λ b. is_query_kind b.kind) a) false ≡ true → ⊥
    both None is_u is_q = false≢true is_q
    both (Some a) is_u is_q = false≢true (ap not (sym is_q) ∙ is_u)

-- the books after charges that fit
pub AreBooks-charged : (xs : List Account) (total : ℕ) (u : TxnId) (cs : List (TxnId × ℕ)) → AreBooks xs total
    → is_open_update xs u.0 ≡ true → AllByRecursion (λ (c : TxnId × ℕ). is_open_query xs c.0.0 ≡ true) cs → IsAscendingBy (λ (c : TxnId × ℕ). c.0.0) cs
    → find (λ (c : TxnId × ℕ). would_pass xs c.0.0 c.1) cs ≡ None → would_pass xs u.0 (total_of cs) ≡ false
    → AreBooks (charged xs u cs) (total + total_of cs)
AreBooks-charged xs total u cs books update queries asc none spare_capacity =
    let are : AreImports xs cs = record { ascending = asc; queries = queries; fit = fitting cs (find_none_all (λ (c : TxnId × ℕ). would_pass xs c.0.0 c.1) cs none) } in
    let asc_then = imported_ascends cs xs books.ascending in
    let sums = imports_imported cs xs are books.ascending in
    let same : account_of (charged_to_queries xs cs) u.0 ≡ account_of xs u.0 = account_imported_other u.0 cs xs (not_charged xs u.0 cs update queries) in
    let is_u : is_open_update (charged_to_queries xs cs) u.0 ≡ true = ap (λ (a : Option Account). unwrap_or (option_map (λ (b : Account). not (is_query_kind b.kind)) a) false) same ∙ update in
    let fits : account_amount (charged_to_queries xs cs) u.0 + total_of cs ≤ limit_at (charged_to_queries xs cs) u.0 =
    subst (λ (a : Option Account). unwrap_or (option_map (λ (e : Account). e.amount) a) 0 + total_of cs ≤ unwrap_or (option_map (λ (e : Account). e.limit) a) 0) (sym same) (ltb-false (limit_at xs u.0) (account_amount xs u.0 + total_of cs) spare_capacity) in
    let last = exports_raised_update u.0 (total_of cs) (charged_to_queries xs cs) asc_then is_u in
    record {
      ascending = raised_ascends u.0 (total_of cs) (charged_to_queries xs cs) asc_then;
      within = within_raised u.0 (total_of cs) (charged_to_queries xs cs) asc_then (within_imported cs xs are books.ascending books.within) fits;
      import_sum = last.0 ∙ (sums.0 ∙ ap (λ m. m + total_of cs) books.import_sum);
      export_sum = last.1 ∙ ap (λ m. m + total_of cs) (sums.1 ∙ books.export_sum);
    }
  where
    fitting : (bs : List (TxnId × ℕ)) → AllByRecursion (λ (c : TxnId × ℕ). would_pass xs c.0.0 c.1 ≡ false) bs → AllByRecursion (λ (c : TxnId × ℕ). account_amount xs c.0.0 + c.1 ≤ limit_at xs c.0.0) bs
    fitting [] all = tt
    fitting (b ∷ bs) all = (ltb-false (limit_at xs b.0.0) (account_amount xs b.0.0 + b.1) all.0, fitting bs all.1)

pub amount_within : (t : ℕ) (xs : List Account) → AllByRecursion IsWithinLimit xs → account_amount xs t ≤ limit_at xs t
amount_within t [] all = omega arith
amount_within t (x ∷ xs) all =
    elim (cases_Bool (number x == t)) [
      | inl here ↦ rw here all.0.0
      | inr away ↦ rw away (amount_within t xs all.1)
    ]

pub found_within : (t : ℕ) (accounts : List Account) (a : Account) → AllByRecursion IsWithinLimit accounts → account_of accounts t ≡ Some a → a.amount ≤ a.limit
found_within t accounts a within found =
    let le : account_amount accounts t ≤ limit_at accounts t = amount_within t accounts within in
    rw found at le

pub more_than_left : (amount limit n : ℕ) → amount ≤ limit → nat_lt (limit - amount) n ≡ nat_lt limit (amount + n)
more_than_left amount limit n within =
    elim (cases_lt limit (amount + n)) [
      | inl more ↦ rw (lt-ltb limit (amount + n) more, lt-ltb (limit - amount) n (omega (arith, more, within))) refl
      | inr enough ↦ rw (le-ltb limit (amount + n) enough, le-ltb (limit - amount) n (omega (arith, enough, within))) refl
    ]

pub limit_small : (t : ℕ) (xs : List Account) → AllByRecursion IsWithinLimit xs → limit_at xs t < 2 ^ 64
limit_small t [] all = omega arith
limit_small t (x ∷ xs) all =
    elim (cases_Bool (number x == t)) [
      | inl here ↦ rw here all.0.1
      | inr away ↦ rw away (limit_small t xs all.1)
    ]

-- a quote that fits passes no limit
pub quote_fits : (f : Option (TxnId × ℕ)) (over : Bool) (u : TxnId) → quoted f over u ≡ Fits → (f ≡ None) × (over ≡ false)
quote_fits (Some c) over u is = absurd (cc)
quote_fits None true u is = absurd (cc)
quote_fits None false u is = (refl, refl)

module _ (xs : List Account) (total : ℕ) (books : AreBooks xs total) (u : TxnId) (cs : List (TxnId × ℕ)) (are : AreCharges xs u cs) where
  pub all_open : All (λ (c : TxnId × ℕ). is_open xs c.0.0 ≡ true) cs
  all_open = All-weaker (λ (c : TxnId × ℕ). is_open_query xs c.0.0 ≡ true) (λ (c : TxnId × ℕ). is_open xs c.0.0 ≡ true) (λ c is. query_open c.0.0 xs is) cs are.queries

  pub account_stays : account_of (charged_to_queries xs cs) u.0 ≡ account_of xs u.0
  account_stays = account_imported_other u.0 cs xs (not_charged xs u.0 cs are.update (recursion_from_All (λ (c : TxnId × ℕ). is_open_query xs c.0.0 ≡ true) cs are.queries))

  -- the quote of charges to queries that fit
  pub quote_is : (over : Bool) → find (λ (c : TxnId × ℕ). would_pass xs c.0.0 c.1) cs ≡ None → would_pass xs u.0 (total_of cs) ≡ over → quote_of xs u cs ≡ quoted None over u
  quote_is over none is = ap (λ (f : Option (TxnId × ℕ)). quoted f (would_pass xs u.0 (total_of cs)) u) none ∙ ap (λ b. quoted None b u) is

  module _ (fits : quote_of xs u cs ≡ Fits) where
    parts : (find (λ (c : TxnId × ℕ). would_pass xs c.0.0 c.1) cs ≡ None) × (would_pass xs u.0 (total_of cs) ≡ false)
    parts = quote_fits (find (λ (c : TxnId × ℕ). would_pass xs c.0.0 c.1) cs) (would_pass xs u.0 (total_of cs)) u fits

    pub imports_fit : All (λ (c : TxnId × ℕ). account_amount xs c.0.0 + c.1 < 2 ^ 64) cs
    imports_fit =
        All-weaker (λ (c : TxnId × ℕ). would_pass xs c.0.0 c.1 ≡ false) (λ (c : TxnId × ℕ). account_amount xs c.0.0 + c.1 < 2 ^ 64)
        (λ c is. let le : account_amount xs c.0.0 + c.1 ≤ limit_at xs c.0.0 = ltb-false (limit_at xs c.0.0) (account_amount xs c.0.0 + c.1) is in let lim : limit_at xs c.0.0 < 2 ^ 64 = limit_small c.0.0 xs books.within in omega arith)
        cs (All-from_recursion (λ (c : TxnId × ℕ). would_pass xs c.0.0 c.1 ≡ false) cs (find_none_all (λ (c : TxnId × ℕ). would_pass xs c.0.0 c.1) cs parts.0))

    pub export_fits : account_amount xs u.0 + total_of cs < 2 ^ 64
    export_fits =
        let le : account_amount xs u.0 + total_of cs ≤ limit_at xs u.0 = ltb-false (limit_at xs u.0) (account_amount xs u.0 + total_of cs) parts.1 in
        let lim : limit_at xs u.0 < 2 ^ 64 = limit_small u.0 xs books.within in
        omega arith

    pub export_fits_then : account_amount (charged_to_queries xs cs) u.0 + total_of cs < 2 ^ 64
    export_fits_then = subst (λ (a : Option Account). unwrap_or (option_map (λ (e : Account). e.amount) a) 0 + total_of cs < 2 ^ 64) (sym account_stays) export_fits

    pub still_open : is_open (charged_to_queries xs cs) u.0 ≡ true
    still_open = update_open u.0 (charged_to_queries xs cs) (ap (λ (a : Option Account). unwrap_or (option_map (λ (b : Account). not (is_query_kind b.kind)) a) false) account_stays ∙ are.update)

    pub books_then : AreBooks (charged xs u cs) (total + total_of cs)
    books_then = AreBooks-charged xs total u cs books are.update (recursion_from_All (λ (c : TxnId × ℕ). is_open_query xs c.0.0 ≡ true) cs are.queries) are.ascending parts.0 parts.1

-- the total is bounded by the count of accounts
pub total_bounded : (xs : List Account) (total : ℕ) → AreBooks xs total → total ≤ length xs * 2 ^ 64
total_bounded xs total books =
    let each : All (λ (a : Account). import_of a ≤ 2 ^ 64) xs = All-weaker IsWithinLimit (λ (a : Account). import_of a ≤ 2 ^ 64) small xs (All-from_recursion IsWithinLimit xs books.within) in
    subst (λ n. n ≤ length xs * 2 ^ 64) books.import_sum (sum_by-le import_of (2 ^ 64) xs each)
  where
    small : (a : Account) → IsWithinLimit a → import_of a ≤ 2 ^ 64
    small a w = at (is_query_kind a.kind)
      where
        at : (b : Bool) → (if b then a.amount else 0) ≤ 2 ^ 64
        at true = omega (arith, w.0, w.1)
        at false = omega arith

-- a new account
pub AreBooks-with_account : (xs : List Account) (total : ℕ) (a : Account) → AreBooks xs total → a.amount ≡ 0 → a.limit < 2 ^ 64 → (i : ℕ) → insert xs i a ≡ with_account xs a → AreBooks (with_account xs a) total
AreBooks-with_account xs total a books zero_is small i is = record {
  ascending = placed_ascends number (number a) a (λ b. b) refl (λ b. refl) xs books.ascending;
  within = all_placed number IsWithinLimit (number a) a (λ b. b) (omega arith, small) (λ b w. w) xs books.within;
  import_sum = ap imports (sym is) ∙ (sum_by-insert import_of xs i a ∙ (none import_of refl_import ∙ books.import_sum));
  export_sum = ap exports (sym is) ∙ (sum_by-insert export_of xs i a ∙ (none export_of refl_export ∙ books.export_sum));
}
  where
    refl_import : import_of a ≡ 0
    refl_import = at (is_query_kind a.kind)
      where
        at : (b : Bool) → (if b then a.amount else 0) ≡ 0
        at true = zero_is
        at false = refl

    refl_export : export_of a ≡ 0
    refl_export = at (is_query_kind a.kind)
      where
        at : (b : Bool) → (if b then 0 else a.amount) ≡ 0
        at true = refl
        at false = zero_is

    none : (f : Account → ℕ) → f a ≡ 0 → sum_by f xs + f a ≡ sum_by f xs
    none f z = omega (arith, z)

-- an account is open if and only if a search finds it
open_found : (t : ℕ) (xs : List Account) → is_open xs t ≡ is_some (account_of xs t)
open_found t [] = refl
open_found t (x ∷ xs) =
    elim (cases_Bool (number x == t)) [
      | inl here ↦ rw here refl
      | inr away ↦ rw away (open_found t xs)
    ]

pub open_by_account : (xs ys : List Account) (t : ℕ) → account_of ys t ≡ account_of xs t → is_open xs t ≡ true → is_open ys t ≡ true
open_by_account xs ys t same is = open_found t ys ∙ (ap is_some same ∙ (sym (open_found t xs) ∙ is))
