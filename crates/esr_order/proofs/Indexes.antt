-- What an index contains of the history whose entries it has read.
use Rattle.std.proofs.Common.{◌≡◌, ℕ, zero, suc, ◌+◌, ◌-◌, ◌<◌, refl, inl, inr, subst, true, drop, List, [], ◌∷◌, ◌++◌, length, get_or, take, map, filter_map, slice_get, Some, sym, ap, ◌∙◌, arith}
use Rattle.std.proofs.lemmas.Option.{slice_get_within, get_or_from_slice_get}
use Rattle.std.proofs.lemmas.List.{take_more, take_all, length-take, get_or-take, get_or-drop}
use Rattle.std.proofs.lemmas.List.Elements.{filter_map-append}
use Rattle.esr_base.specs.declared.numbers.TxnId.{TxnId}
use Rattle.esr_history.specs.declared.event.Entry.{Entry}
use Rattle.esr_history.specs.Events.{is_committed}
use Rattle.esr_history.specs.Machine.{DistanceFunction, Schedule, IsLegal, accepted_in}
use Rattle.esr_history.specs.Operations.{commit_order}
use Rattle.esr_order.specs.Scans.{commit_in}
use Rattle.esr_order.specs.Index.{Indexed, IsIndexOf}
use Rattle.esr_order.specs.AccessRows.{AreRowsOf}
use Rattle.esr_order.proofs.Commits.{committed_are, numbers_in}
use Rattle.esr_history.proofs.Membership.{In, any-from_number}
use Rattle.esr_history.proofs.TraceAgreement.{committed_among}
use Rattle.esr_order.proofs.Rowed.{rows_later}

-- all entries were read
pub index_whole : (h : Schedule) (i : Indexed) → IsIndexOf h.entries i → i.read ≡ length h.entries → map (λ (t : TxnId). t.0) i.commits ≡ commit_order (accepted_in h)
index_whole h i is all =
    ap (map (λ (t : TxnId). t.0)) (is.commits ∙ ap (filter_map commit_in) (ap (λ n. take n h.entries) all ∙ take_all (length h.entries) h.entries (omega arith)))
    ∙ committed_are h.entries

-- and so the rows are of it all
pub index_rows : (h : Schedule) (i : Indexed) → IsIndexOf h.entries i → i.read ≡ length h.entries → AreRowsOf h.entries i.rows
index_rows h i is all = subst (λ es. AreRowsOf es i.rows) (ap (λ n. take n h.entries) all ∙ take_all (length h.entries) h.entries (omega arith)) is.rows

in_get : {X : Type 0} (xs : List X) (j : ℕ) (d : X) → j < length xs → In (get_or xs j d) xs
in_get [] j d l = absurd (omega arith)
in_get (x ∷ xs) zero d l = inl refl
in_get (x ∷ xs) (suc j) d l = inr (in_get xs j d (omega arith))

-- those from a place on have committed
pub index_over : (h : Schedule) (i : Indexed) → IsIndexOf h.entries i → i.read ≡ length h.entries → (first k : ℕ) (d : TxnId) → k < length (take (length i.commits - first) (drop first i.commits))
    → is_committed (accepted_in h) (get_or (take (length i.commits - first) (drop first i.commits)) k d).0 ≡ true
index_over h i is all first k d l =
    let m = length i.commits - first in
    let short : k < m = omega (arith, l, length-take m (drop first i.commits)) in
    let inside : first + k < length i.commits = omega (arith, short) in
    let t : TxnId = get_or i.commits (first + k) d in
    let same : get_or (take m (drop first i.commits)) k d ≡ t = get_or-take m (drop first i.commits) k d short ∙ get_or-drop first i.commits k d in
    ap (λ (t : TxnId). is_committed (accepted_in h) t.0) same
    ∙ (committed_among (accepted_in h) t.0
    ∙ any-from_number (commit_order (accepted_in h)) t.0 (subst (In t.0) (index_whole h i is all) (numbers_in i.commits t (in_get i.commits (first + k) d inside))))

-- one entry more is read
pub index_more : (d : DistanceFunction) (h : Schedule) → IsLegal d h → (i : Indexed) (e : Entry) (commits : List TxnId) → IsIndexOf h.entries i → Some e ≡ slice_get h.entries i.read → commits ≡ i.commits ++ filter_map commit_in (e ∷ [])
    → IsIndexOf h.entries (record { read = i.read + 1; commits = commits; rows = i.rows })
index_more d h legal i e commits is at added =
    let entries = h.entries in
    let inside : i.read < length entries = slice_get_within entries i.read e (sym at) in
    let read : get_or entries i.read e ≡ e = get_or_from_slice_get entries i.read e e (sym at) in
    let more : take (i.read + 1) entries ≡ take i.read entries ++ e ∷ [] = take_more entries i.read e inside ∙ ap (λ x. take i.read entries ++ x ∷ []) read in record {
      count_within_max = omega (arith, inside);
      commits = added ∙ ap (λ ts. ts ++ filter_map commit_in (e ∷ [])) is.commits ∙ sym (ap (filter_map commit_in) more ∙ filter_map-append commit_in (take i.read entries) (e ∷ []));
      rows = rows_later d h legal i.read (i.read + 1) (omega arith) i.rows is.rows;
    }
