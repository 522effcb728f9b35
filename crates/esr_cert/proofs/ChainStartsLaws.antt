-- Amounts found by the beginnings of their chains' rows.
use Rattle.std.proofs.Common.{◌≡◌, ℕ, zero, suc, ◌+◌, ◌-◌, ◌<◌, ◌≤◌, List, [], ◌∷◌, ◌++◌, true, refl, sym, ap, ◌∙◌, arith, length, get_or, map, take, replicate, true≢false, eqb, leb, false, inl, inr, length-append}
use Rattle.std.specs.List.{concat}
use Rattle.std.proofs.lemmas.Bool.{and_parts, eqb-true, cases_lt, leb-true, leb-false, le-leb}
use Rattle.std.proofs.lemmas.List.{get_or_append_left, get_or-append_right, get_or-replicate, length-replicate, length-map, take_all}
use Rattle.std.specs.List.Sorted.{IsNonDecreasingBy, IsPartitionPoint}
use Rattle.std.proofs.lemmas.List.Sorted.{IsNonDecreasingBy-from_default}
use Rattle.esr_cert.specs.declared.problem.Chain as code
use Rattle.esr_cert.specs.Problem.{Chain, Problem}
use Rattle.esr_cert.specs.Views.{chain_view}
use Rattle.esr_cert.specs.Certificate.{Certificate, are_rows_matched}
use Rattle.esr_cert.specs.ChainStarts.{chain_starts_from, chain_by_arc_from, joined, AreChainStarts}
use Rattle.esr_cert.proofs.Sound.{here, there, IsProblem}
use Rattle.esr_cert.proofs.Matched.{IsMatched, AreWhole, are_whole}

record MatchesFirst (chain : Chain) (chains : List Chain) (row : List ℕ) (rows : List (List ℕ)) : Type 0 where
  long : length row ≡ length chain.costs
  others : are_rows_matched chains rows ≡ true

first : (chain : Chain) (chains : List Chain) (row : List ℕ) (rows : List (List ℕ)) → are_rows_matched (chain ∷ chains) (row ∷ rows) ≡ true → MatchesFirst chain chains row rows
first chain chains row rows m =
    let both : (eqb (length row) (length chain.costs) ≡ true) × (are_rows_matched chains rows ≡ true) = and_parts (eqb (length row) (length chain.costs)) (are_rows_matched chains rows) m in
    record { long = eqb-true (length row) (length chain.costs) both.0; others = both.1 }

starts_count : (n : ℕ) (chains : List Chain) (rows : List (List ℕ)) → are_rows_matched chains rows ≡ true → length (chain_starts_from n chains) ≡ suc (length rows)
starts_count n [] [] m = refl
starts_count n [] (row ∷ rows) m = absurd (true≢false (sym m))
starts_count n (chain ∷ chains) [] m = absurd (true≢false (sym m))
starts_count n (chain ∷ chains) (row ∷ rows) m = ap suc (starts_count (n + length chain.costs) chains rows (first chain chains row rows m).others)

starts_at : (n : ℕ) (chains : List Chain) (rows : List (List ℕ)) → are_rows_matched chains rows ≡ true → (k : ℕ) → k ≤ length rows → get_or (chain_starts_from n chains) k 0 ≡ n + length (joined (take k rows))
starts_at n [] [] m zero l = omega arith
starts_at n [] [] m (suc k) l = absurd (omega arith)
starts_at n [] (row ∷ rows) m k l = absurd (true≢false (sym m))
starts_at n (chain ∷ chains) [] m k l = absurd (true≢false (sym m))
starts_at n (chain ∷ chains) (row ∷ rows) m zero l = omega arith
starts_at n (chain ∷ chains) (row ∷ rows) m (suc k) l =
    let one : MatchesFirst chain chains row rows = first chain chains row rows m in
    omega (arith, one.long, starts_at (n + length chain.costs) chains rows one.others k (omega arith), length-append row (joined (take k rows)))

rows_filled : (chains : List Chain) (rows : List (List ℕ)) → AreWhole chains → are_rows_matched chains rows ≡ true → (k : ℕ) → k < length rows → 0 < length (get_or rows k [])
rows_filled [] [] whole m k l = absurd (omega arith)
rows_filled [] (row ∷ rows) whole m k l = absurd (true≢false (sym m))
rows_filled (chain ∷ chains) [] whole m k l = absurd (true≢false (sym m))
rows_filled (chain ∷ chains) (row ∷ rows) whole m zero l = omega (arith, (first chain chains row rows m).long, whole chain (here chain chains))
rows_filled (chain ∷ chains) (row ∷ rows) whole m (suc k) l = rows_filled chains rows (λ d at. whole d (there chain d chains at)) (first chain chains row rows m).others k (omega arith)

pub are_starts : (p : Problem) → IsProblem p → (c : Certificate) → IsMatched p c → AreChainStarts (chain_starts_from 0 p.chains) c.chain_flow
are_starts p ok c m = record {
  count = starts_count 0 p.chains c.chain_flow m.rows;
  at = λ k l. omega (arith, starts_at 0 p.chains c.chain_flow m.rows k l);
  filled = rows_filled p.chains c.chain_flow (are_whole p ok c m) m.rows;
}

-- ---- the element at an index of joined rows

read_row : {X : Type 0} (d : X) (rows : List (List X)) (k j : ℕ) → k < length rows → j < length (get_or rows k []) → get_or (joined rows) (length (joined (take k rows)) + j) d ≡ get_or (get_or rows k []) j d
read_row d [] k j l m = absurd (omega arith)
read_row d (row ∷ rows) zero j l m =
    let here_is : length (joined (take zero (row ∷ rows))) + j ≡ j = omega arith in
    ap (λ i. get_or (row ++ joined rows) i d) here_is ∙ get_or_append_left row (joined rows) d j m
read_row d (row ∷ rows) (suc k) j l m =
    let far : length (row ++ joined (take k rows)) + j ≡ length row + (length (joined (take k rows)) + j) = omega (arith, length-append row (joined (take k rows))) in
    let back : length row + (length (joined (take k rows)) + j) - length row ≡ length (joined (take k rows)) + j = omega arith in
    ap (λ i. get_or (row ++ joined rows) i d) far
    ∙ get_or-append_right row (joined rows) (length row) (length row + (length (joined (take k rows)) + j)) d refl (omega arith)
    ∙ ap (λ i. get_or (joined rows) i d) back
    ∙ read_row d rows k j (omega arith) m

longer : {X : Type 0} (rows : List (List X)) (k : ℕ) → k < length rows → length (joined (take (suc k) rows)) ≡ length (joined (take k rows)) + length (get_or rows k [])
longer [] k l = absurd (omega arith)
longer (row ∷ rows) zero l = omega (arith, length-append row [])
longer (row ∷ rows) (suc k) l =
    omega (arith, length-append row (joined (take (suc k) rows)), length-append row (joined (take k rows)), longer rows k (omega arith))

rising : {X : Type 0} (rows : List (List X)) (i j : ℕ) → i ≤ j → length (joined (take i rows)) ≤ length (joined (take j rows))
rising rows zero j l = omega arith
rising [] (suc i) j l = omega arith
rising (row ∷ rows) (suc i) zero l = absurd (omega arith)
rising (row ∷ rows) (suc i) (suc j) l =
    omega (arith, length-append row (joined (take i rows)), length-append row (joined (take j rows)), rising rows i j (omega arith))

module _ {X : Type 0} (chain_starts : List ℕ) (rows : List (List X)) (are : AreChainStarts chain_starts rows) where
  pub starts_rise : IsNonDecreasingBy (λ n. n) chain_starts
  starts_rise = IsNonDecreasingBy-from_default (λ n. n) chain_starts 0 (λ i j l m. omega (arith, are.count, are.at i (omega (arith, are.count)), are.at j (omega (arith, are.count)), rising rows i j l))

  -- a row ends at the beginning of the next
  pub row_ends : (k : ℕ) → k < length rows → get_or chain_starts (suc k) 0 ≡ get_or chain_starts k 0 + length (get_or rows k [])
  row_ends k l = omega (arith, are.at k (omega arith), are.at (suc k) (omega arith), longer rows k l)

  -- the elements of a row, and two lists that follow the rows
  pub in_row : (d : X) (backs musts : List X) (k arc : ℕ) → k < length rows → get_or chain_starts k 0 ≤ arc → arc < get_or chain_starts (suc k) 0 → get_or (joined rows ++ backs ++ musts) arc d ≡ get_or (get_or rows k []) (arc - get_or chain_starts k 0) d
  in_row d backs musts k arc l m n =
      let begun : get_or chain_starts k 0 ≡ length (joined (take k rows)) = are.at k (omega arith) in
      let ended : get_or chain_starts (suc k) 0 ≡ length (joined (take k rows)) + length (get_or rows k []) = are.at (suc k) (omega arith) ∙ longer rows k l in
      let all : joined (take (length rows) rows) ≡ joined rows = ap joined (take_all (length rows) rows (omega arith)) in
      let inside : arc < length (joined rows) = omega (arith, are.at (suc k) (omega arith), rising rows (suc k) (length rows) (omega arith), ap length all) in
      let there_is : length (joined (take k rows)) + (arc - get_or chain_starts k 0) ≡ arc = omega arith in
      get_or_append_left (joined rows ++ backs) musts d arc (omega (arith, length-append (joined rows) backs))
      ∙ get_or_append_left (joined rows) backs d arc inside
      ∙ ap (λ i. get_or (joined rows) i d) (sym there_is)
      ∙ read_row d rows k (arc - get_or chain_starts k 0) l (omega arith)

  pub rows_end : get_or chain_starts (length rows) 0 ≡ length (joined rows)
  rows_end = are.at (length rows) (omega arith) ∙ ap (λ xs. length (joined xs)) (take_all (length rows) rows (omega arith))

  pub in_backs : (d : X) (backs musts : List X) (arc : ℕ) → get_or chain_starts (length rows) 0 ≤ arc → arc - get_or chain_starts (length rows) 0 < length backs → get_or (joined rows ++ backs ++ musts) arc d ≡ get_or backs (arc - get_or chain_starts (length rows) 0) d
  in_backs d backs musts arc l m =
      get_or_append_left (joined rows ++ backs) musts d arc (omega (arith, rows_end, length-append (joined rows) backs))
      ∙ get_or-append_right (joined rows) backs (get_or chain_starts (length rows) 0) arc d (sym rows_end) l

  pub in_musts : (d : X) (backs musts : List X) (arc : ℕ) → get_or chain_starts (length rows) 0 ≤ arc → length backs ≤ arc - get_or chain_starts (length rows) 0 → get_or (joined rows ++ backs ++ musts) arc d ≡ get_or musts (arc - get_or chain_starts (length rows) 0 - length backs) d
  in_musts d backs musts arc l m =
      let back : arc - (get_or chain_starts (length rows) 0 + length backs) ≡ arc - get_or chain_starts (length rows) 0 - length backs = omega arith in
      get_or-append_right (joined rows ++ backs) musts (get_or chain_starts (length rows) 0 + length backs) arc d (omega (arith, rows_end, length-append (joined rows) backs)) (omega arith)
      ∙ ap (λ i. get_or musts i d) back

pub joined_amounts : (rows : List (List ℕ)) → concat rows ≡ joined rows
joined_amounts [] = refl
joined_amounts (row ∷ rows) = ap (λ xs. row ++ xs) (joined_amounts rows)

-- the result of a search for the last row that begins at or before a number
pub record IsFound (chain_starts : List ℕ) (number begun : ℕ) : Type 0 where
  pub some : 1 ≤ begun
  pub at : get_or chain_starts (begun - 1) 0 ≤ number
  pub past : begun < length chain_starts → number < get_or chain_starts begun 0

pub found : (chain_starts : List ℕ) (number begun : ℕ) → 0 < length chain_starts → get_or chain_starts 0 0 ≡ 0 → begun ≤ length chain_starts → IsPartitionPoint (λ n. leb n number ≡ true) (λ n. leb n number ≡ false) chain_starts begun → IsFound chain_starts number begun
found chain_starts number begun filled first_is l (before, after) =
    let some : 1 ≤ begun =
    elim (cases_lt 0 begun) [
      | inl m ↦ omega arith
      | inr m ↦ absurd (true≢false (sym (le-leb (get_or chain_starts 0 0) number (omega (arith, first_is))) ∙ after 0 0 (omega arith) filled))
    ] in
    record {
      some = some;
      at = leb-true _ _ (before (begun - 1) 0 (omega arith) (omega arith));
      past = λ m. leb-false _ _ (after begun 0 (omega arith) m);
    }

-- ---- the chain of an arc

first_start : (m : ℕ) (chains : List Chain) → get_or (chain_starts_from m chains) 0 0 ≡ m
first_start m [] = refl
first_start m (chain ∷ chains) = refl

owners_end : (k m : ℕ) (chains : List Chain) → get_or (chain_starts_from m chains) (length chains) 0 ≡ m + length (chain_by_arc_from k chains)
owners_end k m [] = omega arith
owners_end k m (chain ∷ chains) =
    omega (arith, owners_end (k + 1) (m + length chain.costs) chains, length-append (replicate (length chain.costs) k) (chain_by_arc_from (k + 1) chains), length-replicate (length chain.costs) k)

-- the chain with a number has an arc
pub record IsOwner (k m : ℕ) (chains : List Chain) (i : ℕ) : Type 0 where
  pub chain : ℕ
  pub inside : chain < length chains
  pub is : get_or (chain_by_arc_from k chains) i 0 ≡ k + chain
  pub begun : get_or (chain_starts_from m chains) chain 0 ≤ m + i
  pub before : m + i < get_or (chain_starts_from m chains) (suc chain) 0

owner : (k m : ℕ) (chains : List Chain) (i : ℕ) → i < length (chain_by_arc_from k chains) → IsOwner k m chains i
owner k m [] i l = absurd (omega arith)
owner k m (chain ∷ chains) i l =
    let n : ℕ = length chain.costs in
    let long : length (replicate n k) ≡ n = length-replicate n k in
    let all : length (chain_by_arc_from k (chain ∷ chains)) ≡ length (replicate n k) + length (chain_by_arc_from (k + 1) chains) = length-append (replicate n k) (chain_by_arc_from (k + 1) chains) in
    let rest : i - n < length (chain_by_arc_from (k + 1) chains) → IsOwner (k + 1) (m + n) chains (i - n) = owner (k + 1) (m + n) chains (i - n) in
    elim (cases_lt i n) [
      | inl here_is ↦ record {
        chain = 0;
        inside = omega arith;
        is = omega (arith, get_or_append_left (replicate n k) (chain_by_arc_from (k + 1) chains) 0 i (omega (arith, long)), get_or-replicate n i k 0 here_is);
        begun = omega arith;
        before = omega (arith, first_start (m + n) chains);
      }
      | inr after ↦
          let r : IsOwner (k + 1) (m + n) chains (i - n) = rest (omega (arith, all, long)) in
          record {
            chain = suc r.chain;
            inside = omega (arith, r.inside);
            is = omega (arith, get_or-append_right (replicate n k) (chain_by_arc_from (k + 1) chains) n i 0 long after, r.is);
            begun = omega (arith, r.begun);
            before = omega (arith, r.before);
          }
    ]

-- the properties of the chain that is read, like those of one that is searched for
pub record IsRow (chain_starts : List ℕ) (number k : ℕ) : Type 0 where
  pub bound : k < length chain_starts
  pub begun : get_or chain_starts k 0 ≤ number
  pub last : k + 1 < length chain_starts → number < get_or chain_starts (k + 1) 0

pub starts_long : (m : ℕ) (chains : List Chain) → length (chain_starts_from m chains) ≡ suc (length chains)
starts_long m [] = refl
starts_long m (chain ∷ chains) = ap suc (starts_long (m + length chain.costs) chains)

module _ (chains : List code.Chain) (chain_starts chain_by_arc : List ℕ) (number : ℕ) (s : chain_starts ≡ chain_starts_from 0 (map chain_view chains)) (o : chain_by_arc ≡ chain_by_arc_from 0 (map chain_view chains)) (early : number < get_or chain_starts (length chains) 0) where
  abbrev all : List Chain
  all = map chain_view chains

  same_count : length all ≡ length chains
  same_count = length-map chains chain_view

  in_all : number < length (chain_by_arc_from 0 all)
  in_all = omega (arith, owners_end 0 0 all, ap (λ list. get_or list (length chains) 0) s, ap (λ n. get_or (chain_starts_from 0 all) n 0) same_count, early)

  pub has_owner : number < length chain_by_arc
  has_owner = omega (arith, in_all, ap length o)

  pub owner_row : (k : ℕ) → k ≡ get_or chain_by_arc number 0 → IsRow chain_starts number k
  owner_row k is =
      let r : IsOwner 0 0 all number = owner 0 0 all number in_all in
      let at : k ≡ r.chain = omega (arith, is, ap (λ list. get_or list number 0) o, r.is) in
      let next : k + 1 ≡ suc r.chain = omega (arith, at) in
      record {
        bound = omega (arith, at, r.inside, ap length s, starts_long 0 all);
        begun = omega (arith, r.begun, ap (λ list. get_or list k 0) s, ap (λ i. get_or (chain_starts_from 0 all) i 0) at);
        last = λ l. omega (arith, r.before, ap (λ list. get_or list (k + 1) 0) s, ap (λ i. get_or (chain_starts_from 0 all) i 0) next);
      }
