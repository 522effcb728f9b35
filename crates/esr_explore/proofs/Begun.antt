-- The list of queries after one more call, and after one more block.
use Rattle.std.proofs.Common.{◌≡◌, ℕ, suc, ◌+◌, ◌<◌, List, [], ◌∷◌, ◌++◌, Option, Some, None, Vec, ◌∙◌, ap, ap₂, sym, arith, append-nil, append_assoc, get_or, length, length-take-le, map, option_map, take}
use Rattle.std.specs.declared.alloc.Global.{Global}
use Rattle.std.specs.List.{cons_option, enumerate_from, filter_map, flat_map}
use Rattle.std.proofs.lemmas.List.{get_or-map, length-map, map_push, take_more, take-map}
use Rattle.std.proofs.lemmas.List.Elements.{filter_map-append}
use Rattle.std.proofs.lemmas.List.Concat.{flat_map-append}
use Rattle.esr_plan.specs.declared.call.Call.{Call}
use Rattle.esr_explore.specs.declared.query.Query.{Query}
use Rattle.esr_explore.specs.Queries.{BegunQuery, all_queries, begun_at, begun_query, queries_in, query_at, query_name}

-- a call that begins no query
pub none_begun : (block index : ℕ) (c : Call) (qs : List BegunQuery) → None ≡ query_name c
    → qs ≡ qs ++ filter_map (query_at block) ((index, c) ∷ [])
none_begun block index c qs none =
    sym (append-nil qs) ∙ ap (λ (o : Option (List ℕ)). qs ++ cons_option (option_map (begun_at block index) o) []) none

-- a call that begins one
pub one_begun : (block index : ℕ) (c : Call) (qs new : List Query) (q : Query) (name : List ℕ) → new ≡ qs ++ q ∷ []
    → Some name ≡ query_name c → begun_query q ≡ begun_at block index name
    → map begun_query new ≡ map begun_query qs ++ filter_map (query_at block) ((index, c) ∷ [])
one_begun block index c qs new q name new_is begun is =
    ap (map begun_query) new_is ∙ map_push begun_query qs q ∙ ap (λ (b : BegunQuery). map begun_query qs ++ b ∷ []) is
    ∙ ap (λ (o : Option (List ℕ)). map begun_query qs ++ cons_option (option_map (begun_at block index) o) []) begun

-- one more element with its index
enumerate_push : {X : Type 0} (n : ℕ) (xs : List X) (x : X) → enumerate_from n (xs ++ x ∷ []) ≡ enumerate_from n xs ++ (n + length xs, x) ∷ []
enumerate_push n [] x = ap (λ (k : ℕ). (k, x) ∷ []) (omega arith)
enumerate_push n (y ∷ xs) x =
    ap (λ l. (n, y) ∷ l) (enumerate_push (n + 1) xs x ∙ ap (λ (k : ℕ). enumerate_from (n + 1) xs ++ (k, x) ∷ []) (omega arith))

pub enumerate_more : {X : Type 0} (xs : List X) (i : ℕ) (d : X) → i < length xs
    → enumerate_from 0 (take (i + 1) xs) ≡ enumerate_from 0 (take i xs) ++ (i, get_or xs i d) ∷ []
enumerate_more xs i d lt =
    ap (enumerate_from 0) (take_more xs i d lt) ∙ enumerate_push 0 (take i xs) (get_or xs i d)
    ∙ ap (λ (k : ℕ). enumerate_from 0 (take i xs) ++ (k, get_or xs i d) ∷ []) (omega (arith, length-take-le i xs (omega (arith, lt))))

-- the queries of one more call
pub calls_more : (block : ℕ) (calls : List Call) (i : ℕ) (d : Call) (base was new : List BegunQuery) → i < length calls
    → was ≡ base ++ queries_in block (take i calls) → new ≡ was ++ filter_map (query_at block) ((i, get_or calls i d) ∷ [])
    → new ≡ base ++ queries_in block (take (i + 1) calls)
calls_more block calls i d base was new lt was_is new_is =
    let more : queries_in block (take (i + 1) calls) ≡ queries_in block (take i calls) ++ filter_map (query_at block) ((i, get_or calls i d) ∷ []) =
    ap (filter_map (query_at block)) (enumerate_more calls i d lt)
    ∙ filter_map-append (query_at block) (enumerate_from 0 (take i calls)) ((i, get_or calls i d) ∷ []) in
    new_is ∙ ap (λ l. l ++ filter_map (query_at block) ((i, get_or calls i d) ∷ [])) was_is
    ∙ append_assoc base (queries_in block (take i calls)) (filter_map (query_at block) ((i, get_or calls i d) ∷ []))
    ∙ ap (λ l. base ++ l) (sym more)

-- the queries of one more block
pub blocks_more : (blocks : List (List Call)) (i : ℕ) (d : List Call) (was new : List BegunQuery) → i < length blocks
    → was ≡ all_queries (take i blocks) → new ≡ was ++ queries_in i (get_or blocks i d) → new ≡ all_queries (take (i + 1) blocks)
blocks_more blocks i d was new lt was_is new_is =
    let of : ℕ × List Call → List BegunQuery = λ p. queries_in p.0 p.1 in
    let more : all_queries (take (i + 1) blocks) ≡ all_queries (take i blocks) ++ queries_in i (get_or blocks i d) =
    ap (flat_map of) (enumerate_more blocks i d lt)
    ∙ flat_map-append of (enumerate_from 0 (take i blocks)) ((i, get_or blocks i d) ∷ [])
    ∙ ap (λ l. all_queries (take i blocks) ++ l) (append-nil (queries_in i (get_or blocks i d))) in
    new_is ∙ ap (λ l. l ++ queries_in i (get_or blocks i d)) was_is ∙ sym more

-- blocks as slices: b is the block at i
pub held_blocks_more : (blocks : List (Vec Call Global)) (i : ℕ) (b : Vec Call Global) (calls : List Call) (was new : List BegunQuery) → i < length blocks
    → b ≡ get_or blocks i b → calls ≡ b.items → was ≡ all_queries (map (λ b. b.items) (take i blocks)) → new ≡ was ++ queries_in i calls
    → new ≡ all_queries (map (λ b. b.items) (take (i + 1) blocks))
held_blocks_more blocks i b calls was new lt read calls_are was_is new_is =
    let items : Vec Call Global → List Call = λ b. b.items in
    let here : calls ≡ get_or (map items blocks) i [] = calls_are ∙ ap items read ∙ sym (get_or-map items blocks i b [] lt) in
    blocks_more (map items blocks) i [] was new (omega (arith, lt, length-map blocks items))
    (was_is ∙ ap all_queries (sym (take-map items i blocks)))
    (new_is ∙ ap (λ (l : List Call). was ++ queries_in i l) here)
    ∙ ap all_queries (take-map items (i + 1) blocks)
