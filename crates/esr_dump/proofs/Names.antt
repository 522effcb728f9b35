-- The names in a script: each is valid in a line, and there is one for each item and each transaction.
use Rattle.std.proofs.Common.{◌≡◌, ℕ, zero, suc, ◌+◌, ◌<◌, ◌≤◌, ◌^◌, List, [], ◌∷◌, ◌++◌, Bool, true, false, ◌&&◌, not, cond, nat_le, Option, Some, None, inl, inr, refl, ◌∙◌, ap, ap₂, sym, subst, arith, All, length, map, filter, codes, decimal, slice_index_or}
use Rattle.std.specs.Borrow.{Bor}
use Rattle.std.specs.List.{list_all, range_with_len, cons_option}
use Rattle.std.proofs.lemmas.Bool.{and_parts, cases_Bool}
use Rattle.std.proofs.lemmas.Bool.Decides.{nat_tests}
use Rattle.std.proofs.lemmas.Fmt.{length-decimal-le}
use Rattle.std.proofs.lemmas.List.{length-map, map-append}
use Rattle.std.proofs.lemmas.List.FromFn.{length-map-range_with_len, get_or-map-range_with_len, map-range_with_len_more}
use Rattle.esr_history.specs.Events.{accepted, begin_record_of, begin_records, is_refusal, BeginRecord}
use Rattle.esr_history.specs.Machine.{Schedule, accepted_in}
use Rattle.esr_history.specs.declared.event.Entry.{Entry}
use Rattle.esr_history.specs.declared.event.Event.{Event}
use Rattle.esr_grammar.specs.Command.{is_letter, is_name, is_name_byte, IsName}
use Rattle.esr_grammar.proofs.Bytes.{digit_bytes}
use Rattle.esr_grammar.proofs.Laws.{all_digits}
use Rattle.esr_report.specs.Names.{all_distinct}
use Rattle.esr_dump.specs.RoundTrip.{AreNames, RoundTrips, IsDump}
use Rattle.esr_dump.specs.Naming.{numbered, all_numbered, are_names, first_names, named, spelled}

at_most : (m n : ℕ) → m ≤ n → nat_le m n ≡ true
at_most m n le = grind (arith, nat_tests)

-- a letter followed by a number
number_named : (letter n : ℕ) → is_letter letter ≡ true → n < 2 ^ 32 → IsName (numbered (letter ∷ []) n)
number_named letter n is small =
    let short : nat_le (length (decimal n)) 15 ≡ true = at_most (length (decimal n)) 15 (omega (arith, length-decimal-le 10 n (omega arith) (omega arith) (omega arith))) in
    let digits : list_all is_name_byte (decimal n) ≡ true = digit_bytes (decimal n) (all_digits n (omega arith)) in
    rw (is, short, digits) refl

numbers_named : (letter first count : ℕ) → is_letter letter ≡ true → first + count ≤ 2 ^ 32 → All IsName (all_numbered (letter ∷ []) first count)
numbers_named letter first count is small k d lt =
    let word : List ℕ = letter ∷ [] in
    let within : k < count = omega (arith, lt, length-map-range_with_len (numbered word) first count) in
    subst IsName (sym (get_or-map-range_with_len (numbered word) first count k (first + k) d within refl)) (number_named letter (first + k) is (omega arith))

all_from : (names : List (List ℕ)) → list_all is_name names ≡ true → All IsName names
all_from [] h k d lt = absurd (omega arith)
all_from (n ∷ names) h zero d lt = (and_parts (is_name n) (list_all is_name names) h).0
all_from (n ∷ names) h (suc k) d lt = all_from names (and_parts (is_name n) (list_all is_name names) h).1 k d (omega arith)

spelled_named : (letter first : ℕ) (names : List (List ℕ)) → is_letter letter ≡ true → first + length names ≤ 2 ^ 32 → All IsName (spelled (letter ∷ []) first names)
spelled_named letter first names is small = elim (cases_Bool (are_names names)) [
  | inl good ↦ rw good (all_from names (and_parts (list_all is_name names) (all_distinct names) good).0)
  | inr bad ↦ rw bad (numbers_named letter first (length names) is small)
]

spelled_long : (letter first : ℕ) (names : List (List ℕ)) → length (spelled (letter ∷ []) first names) ≡ length names
spelled_long letter first names = elim (cases_Bool (are_names names)) [
  | inl good ↦ rw good refl
  | inr bad ↦ rw bad (length-map-range_with_len (numbered (letter ∷ [])) first (length names))
]

pub first_long : (count : ℕ) (names : List (List ℕ)) → length (first_names count names) ≡ count
first_long count names = length-map-range_with_len (λ i. slice_index_or names i []) 0 count

-- there is a name for each item and each transaction, and it is valid in a line
pub names_are : (items transactions : List (List ℕ)) (h : Schedule) → length h.opening < 2 ^ 32 → length (begin_records (accepted_in h)) + 1 < 2 ^ 32
    → AreNames (spelled (codes "i") 0 (first_names (length h.opening) items)) (spelled (codes "t") 1 (first_names (length (begin_records (accepted_in h))) transactions)) h
names_are items transactions h bounded_items count_within_max =
    let xs = first_names (length h.opening) items in
    let ts = first_names (length (begin_records (accepted_in h))) transactions in
    let xs_long = first_long (length h.opening) items in
    let ts_long = first_long (length (begin_records (accepted_in h))) transactions in
    record {
      all_items = omega (arith, xs_long, spelled_long 105 0 xs);
      all_transactions = omega (arith, ts_long, spelled_long 116 1 ts);
      items_spelled = spelled_named 105 0 xs refl (omega (arith, xs_long));
      transactions_spelled = spelled_named 116 1 ts refl (omega (arith, ts_long));
    }

fewer_filtered : (p : Entry → Bool) (es : List Entry) → length (filter p es) ≤ length es
fewer_filtered p [] = omega arith
fewer_filtered p (e ∷ es) = elim (cases_Bool (p e)) [
  | inl is ↦ rw is (omega (arith, fewer_filtered p es))
  | inr is ↦ rw is (omega (arith, fewer_filtered p es))
]

one_found : (o : Option BeginRecord) (bs : List BeginRecord) (n : ℕ) → length bs ≤ n → length (cons_option o bs) ≤ n + 1
one_found None bs n le = omega (arith, le)
one_found (Some b) bs n le = omega (arith, le)

fewer_found : (es : List Event) → length (begin_records es) ≤ length es
fewer_found [] = omega arith
fewer_found (e ∷ es) = omega (arith, one_found (begin_record_of e) (begin_records es) (length es) (fewer_found es))

-- no more begin than there are entries
pub bounded_begun : (es : List Entry) → length (begin_records (accepted es)) ≤ length es
bounded_begun es =
    let p : Entry → Bool = λ e. not (is_refusal e.reply) in
    omega (arith, fewer_found (accepted es), length-map (filter p es) (λ (e : Entry). e.event), fewer_filtered p es)

-- one more of the names
pub one_more_name : (names : List (List ℕ)) (words : List (Bor (List ℕ))) (n : ℕ) (w : Bor (List ℕ)) → map (λ word. word.now) words ≡ first_names n names
    → w.now ≡ slice_index_or names n [] → map (λ word. word.now) (words ++ w ∷ []) ≡ first_names (n + 1) names
one_more_name names words n w are is =
    map-append (λ (word : Bor (List ℕ)). word.now) words (w ∷ [])
    ∙ (ap₂ (λ l x. l ++ x ∷ []) are is ∙ sym (map-range_with_len_more (λ i. slice_index_or names i []) 0 n n (omega arith)))

pub spelled_some : (word : List ℕ) (first : ℕ) (words names : List (List ℕ)) → Some names ≡ named words → names ≡ spelled word first words
spelled_some word first words names is = go (are_names words) is
  where
    go : (b : Bool) → Some names ≡ cond b (Some words) None → names ≡ cond b words (all_numbered word first (length words))
    go true same = cc
    go false same = absurd (cc)

pub spelled_none : (word : List ℕ) (first : ℕ) (words numbers : List (List ℕ)) (n : ℕ) → None ≡ named words → n ≡ length words → numbers ≡ all_numbered word first n
    → numbers ≡ spelled word first words
spelled_none word first words numbers n is long are = are ∙ ap (all_numbered word first) long ∙ go (are_names words) is
  where
    go : (b : Bool) → None ≡ cond b (Some words) None → all_numbered word first (length words) ≡ cond b words (all_numbered word first (length words))
    go true same = absurd (cc)
    go false same = refl

-- the script by these tables recreates the history
pub carried_past : (items transactions xs ts : List (List ℕ)) (n m : ℕ) (h : Schedule) (text : List ℕ) → n ≡ length h.opening → m ≡ length (begin_records (accepted_in h))
    → items ≡ spelled (codes "i") 0 (first_names n xs) → transactions ≡ spelled (codes "t") 1 (first_names m ts)
    → n < 2 ^ 32 → m + 1 < 2 ^ 32 → (AreNames items transactions h → RoundTrips items transactions h text) → IsDump xs ts h text
carried_past items transactions xs ts n m h text n_is m_is is are bounded_items count_within_max again =
    let own : List (List ℕ) = spelled (codes "i") 0 (first_names (length h.opening) xs) in
    let others : List (List ℕ) = spelled (codes "t") 1 (first_names (length (begin_records (accepted_in h))) ts) in
    let items_are : items ≡ own = is ∙ ap (λ k. spelled (codes "i") 0 (first_names k xs)) n_is in
    let transactions_are : transactions ≡ others = are ∙ ap (λ k. spelled (codes "t") 1 (first_names k ts)) m_is in
    let named : AreNames own others h = names_are xs ts h (omega (arith, n_is)) (omega (arith, m_is)) in
    let good : AreNames items transactions h =
    subst (λ (l : List (List ℕ)). AreNames l transactions h) (sym items_are) (subst (λ (l : List (List ℕ)). AreNames own l h) (sym transactions_are) named) in
    subst (λ (l : List (List ℕ)). RoundTrips l others h text) items_are (subst (λ (l : List (List ℕ)). RoundTrips items l h text) transactions_are (again good))
