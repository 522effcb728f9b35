-- Pieces of text that are appended one after another.
use Rattle.std.proofs.Common.{◌≡◌, ◌∙◌, ℕ, ◌+◌, ◌<◌, List, [], ◌∷◌, ◌++◌, ap, ap₂, arith, sym, append-nil, append_assoc, flat_map, get_or, length, map, take}
use Rattle.std.specs.List.{enumerate_from, range_with_len}
use Rattle.std.proofs.lemmas.List.{get_or-map, length-map, take-map}
use Rattle.std.proofs.lemmas.List.Concat.{flat_map-append}
use Rattle.esr_explore.specs.declared.query.Query.{Query}
use Rattle.esr_explore.specs.Queries.{BegunQuery, begun_query}
use Rattle.esr_explore.proofs.Begun.{enumerate_more}
use Rattle.esr_explore.proofs.Every.{range-push}

-- one more piece
pub then : (out x y before after : List ℕ) → before ≡ out ++ x → after ≡ before ++ y → after ≡ out ++ (x ++ y)
then out x y before after before_is after_is = after_is ∙ ap (λ l. l ++ y) before_is ∙ append_assoc out x y

-- a piece that equals another text
pub then_same : (out x y z before after : List ℕ) → before ≡ out ++ x → after ≡ before ++ z → z ≡ y → after ≡ out ++ (x ++ y)
then_same out x y z before after before_is after_is same =
    then out x y before after before_is (after_is ∙ ap (λ l. before ++ l) same)

-- the piece of one more number
pub number_more : (f : ℕ → List ℕ) (out before after : List ℕ) (n : ℕ) → before ≡ out ++ flat_map f (range_with_len 0 n) → after ≡ before ++ f n
    → after ≡ out ++ flat_map f (range_with_len 0 (n + 1))
number_more f out before after n before_is after_is =
    let all : List ℕ = flat_map f (range_with_len 0 n) in
    let more : all ++ f n ≡ flat_map f (range_with_len 0 (n + 1)) =
    ap (λ l. all ++ l) (sym (append-nil (f n))) ∙ sym (flat_map-append f (range_with_len 0 n) (n ∷ []))
    ∙ ap (λ (k : ℕ). flat_map f (range_with_len 0 n ++ k ∷ [])) (omega arith) ∙ ap (flat_map f) (sym (range-push 0 n)) in
    then out all (f n) before after before_is after_is ∙ ap (λ l. out ++ l) more

-- the piece of one more query
pub query_more : (f : ℕ × BegunQuery → List ℕ) (out before after : List ℕ) (queries : List Query) (i : ℕ) (q : Query) → i < length queries
    → before ≡ out ++ flat_map f (enumerate_from 0 (map begun_query (take i queries))) → after ≡ before ++ f (i, begun_query (get_or queries i q))
    → after ≡ out ++ flat_map f (enumerate_from 0 (map begun_query (take (i + 1) queries)))
query_more f out before after queries i q lt before_is after_is =
    let all : List BegunQuery = map begun_query queries in
    let here : begun_query (get_or queries i q) ≡ get_or all i (begun_query q) = sym (get_or-map begun_query queries i q (begun_query q) lt) in
    let piece : List ℕ = f (i, get_or all i (begun_query q)) in
    let so_far : List ℕ = flat_map f (enumerate_from 0 (take i all)) in
    let more : so_far ++ piece ≡ flat_map f (enumerate_from 0 (take (i + 1) all)) =
    ap (λ l. so_far ++ l) (sym (append-nil piece)) ∙ sym (flat_map-append f (enumerate_from 0 (take i all)) ((i, get_or all i (begun_query q)) ∷ []))
    ∙ ap (flat_map f) (sym (enumerate_more all i (begun_query q) (omega (arith, lt, length-map queries begun_query)))) in
    then out so_far piece before after
    (before_is ∙ ap (λ (l : List BegunQuery). out ++ flat_map f (enumerate_from 0 l)) (sym (take-map begun_query i queries)))
    (after_is ∙ ap (λ (b : BegunQuery). before ++ f (i, b)) here)
    ∙ ap (λ l. out ++ l) more ∙ ap (λ (l : List BegunQuery). out ++ flat_map f (enumerate_from 0 l)) (take-map begun_query (i + 1) queries)
