use Rattle.std.proofs.Common.{rules, ◌≡◌, ◌≢◌, ◌+◌, ◌∷◌, [], ◌++◌, append-nil, List, Option, Some, None, drop, map, option_map, option_and_then, refl, sym, ap, ◌∙◌, arith}
use Rattle.std.proofs.lemmas.List.{append_assoc, drop_more, drop_all, map_push}
use Rattle.esr_cert.specs.declared.problem.BundleFault.{BundleFault}
use Rattle.esr_cert.specs.declared.problem.BundleFault.TheVariants.{Shape, NoMemory}
use Rattle.serde_json.specs.Data.{Data}
use Rattle.serde_json.specs.Find.{as_array}
use Rattle.serde_json.specs.View.{view, items_view}
use Rattle.serde_json.specs.declared.value.Value.{Value}
use Rattle.esr_bundle.specs.Fields.{each, list_of}
use Rattle.esr_bundle.proofs.Exits.{passes}
use Rattle.esr_bundle.proofs.fields.decode_list.Goals as goal

-- the elements read before some items, and the first of these items
each_next : {A : Type 0} (f : Data → Option A) (done : List A) (v : Value) (vs : List Value) (a : A) → f (view v) ≡ Some a
    → option_map (λ rest. (done ++ a ∷ []) ++ rest) (each f (items_view vs)) ≡ option_map (λ rest. done ++ rest) (each f (items_view (v ∷ vs)))
each_next {A} f done v vs a h = rw h (go (each f (items_view vs)))
  where
    go : (o : Option (List A)) → option_map (λ rest. (done ++ a ∷ []) ++ rest) o ≡ option_map (λ rest. done ++ rest) (option_map (λ rest. a ∷ rest) o)
    go None = refl
    go (Some rest) = ap (λ l. Some l) (append_assoc done (a ∷ []) rest)

pub loop-item-preserved : goal.loop-item-preserved
loop-item-preserved g c =
    let i = c.loop-item.item-index in
    let items = c.deref-item-items.result.now in
    let v = c.item-item.result in
    let done = map g.T.FromJson.model_of c.loop-item.found.items in
    let more : c.push.new.self.items ≡ c.loop-item.found.items ++ c.in_ok-part.part ∷ [] = search rules in
    let here : drop i items ≡ v ∷ drop (i + 1) items = drop_more items i v (omega arith) ∙ ap (λ x. x ∷ drop (i + 1) items) (sym c.item-item.is) in
    ap (λ ks. option_map (λ rest. ks ++ rest) (each g.T.FromJson.decoded (items_view (drop (i + 1) items)))) (ap (map g.T.FromJson.model_of) more ∙ map_push g.T.FromJson.model_of c.loop-item.found.items c.in_ok-part.part)
    ∙ each_next g.T.FromJson.decoded done v (drop (i + 1) items) (g.T.FromJson.model_of c.in_ok-part.part) c.in_ok-part.ensures.ok
    ∙ ap (λ vs. option_map (λ rest. done ++ rest) (each g.T.FromJson.decoded (items_view vs))) (sym here)
    ∙ c.loop-item.invariant

nothing_yet : {A : Type 0} (o : Option (List A)) → option_map (λ rest. [] ++ rest) o ≡ o
nothing_yet None = refl
nothing_yet (Some rest) = refl

pub loop-item-init : goal.loop-item-init
loop-item-init g c =
    ap (λ found. option_map (λ rest. map g.T.FromJson.model_of found ++ rest) (each g.T.FromJson.decoded (items_view c.deref-item-items.result.now))) c.new-found.ensures.items
    ∙ nothing_yet (each g.T.FromJson.decoded (items_view c.deref-item-items.result.now))

-- the list of a tree, in the words of its items
listed : {A : Type 0} (f : Data → Option A) (d : Data) (vs items : List Value) → Some (items_view vs) ≡ as_array d → items ≡ vs → list_of f d ≡ each f (items_view items)
listed f d vs items h is = sym (ap (option_and_then (each f)) h) ∙ ap (λ l. each f (items_view l)) (sym is)

-- an item that is none of the kind
each_none : {A : Type 0} (f : Data → Option A) (done : List A) (v : Value) (vs : List Value) → f (view v) ≡ None → option_map (λ rest. done ++ rest) (each f (items_view (v ∷ vs))) ≡ None
each_none f done v vs h = rw h refl

pub returns-clause-ok : goal.returns-clause-ok
returns-clause-ok g c =
    let items = c.deref-item-items.result.now in
    let done = map g.T.FromJson.model_of c.loop-item.found.items in
    listed g.T.FromJson.decoded (view c.args.value.now) c.in-Some.items.now.items items c.in-Some.ensures c.deref-item-items.ensures.value
    ∙ sym c.loop-item.invariant
    ∙ ap (λ vs. option_map (λ rest. done ++ rest) (each g.T.FromJson.decoded (items_view vs))) (drop_all c.loop-item.item-index items (omega arith))
    ∙ ap (λ l. Some l) (append-nil done)

pub returns-in_err-part-clause-err : goal.returns-in_err-part-clause-err
returns-in_err-part-clause-err g c =
    let i = c.loop-item.item-index in
    let items = c.deref-item-items.result.now in
    let v = c.item-item.result in
    let done = map g.T.FromJson.model_of c.loop-item.found.items in
    let here : drop i items ≡ v ∷ drop (i + 1) items = drop_more items i v (omega arith) ∙ ap (λ x. x ∷ drop (i + 1) items) (sym c.item-item.is) in
    let none : g.T.FromJson.decoded (view v) ≡ None → list_of g.T.FromJson.decoded (view c.args.value.now) ≡ None = λ h.
    listed g.T.FromJson.decoded (view c.args.value.now) c.in-Some.items.now.items items c.in-Some.ensures c.deref-item-items.ensures.value
    ∙ sym c.loop-item.invariant
    ∙ ap (λ vs. option_map (λ rest. done ++ rest) (each g.T.FromJson.decoded (items_view vs))) here
    ∙ each_none g.T.FromJson.decoded done v (drop (i + 1) items) h in
    passes (λ (e : BundleFault). e ≢ NoMemory → (e ≡ Shape) × (list_of g.T.FromJson.decoded (view c.args.value.now) ≡ None)) c.from_residual.result c.in_err-part.field-0.0 c.from_residual.ensures.1
    (λ n. let k = c.in_err-part.ensures.err n in (k.0, none k.1))
