-- One more line in a plan.
use Rattle.std.proofs.Common.{◌≡◌, ◌≤◌, ℕ, ℤ, ◌+◌, ◌<◌, true, false, List, [], ◌∷◌, ◌++◌, All, length, length-append, map, Option, Some, None, Ok, Vec, Global, refl, ap, sym, subst, ◌∙◌, append_assoc, append-nil, arith, nat_eq, is_some, flat_map, filter_map, option_map}
use Rattle.std.proofs.lemmas.Bool.Decides.{nat_tests}
use Rattle.std.proofs.lemmas.Grind.{flat_map-append}
use Rattle.std.proofs.lemmas.List.{map-append, length-map}
use Rattle.std.proofs.lemmas.List.Elements.{filter_map-append, All-push}
use Rattle.esr_items.specs.Values.{IsValue, is_value}
use Rattle.esr_items.specs.Weights.{IsWeight, is_weight}
use Rattle.esr_report.specs.Names.{position_of, is_bound}
use Rattle.esr_grammar.specs.Command.{Command}
use Rattle.esr_history.specs.declared.event.TxnKind.{TxnKind}
use Rattle.esr_history.specs.declared.event.TxnKind.TheVariants as kind
use Rattle.esr_plan.specs.declared.draft.Draft.{Draft}
use Rattle.esr_plan.specs.Calls.{begin_command, command_of, IsResolved, AreResolved, Call}
use Rattle.esr_plan.specs.Plan.{Plan, new_name, new_names, onto_last, weight_in, weights_of, with_session, with_item, with_operation, with_begin}
use Rattle.esr_plan.specs.Drafts.{commands_in, current_calls, blocks_with, blocks_of, plan_in, ArePlaces, IsSound}
use Rattle.esr_plan.specs.DrivePlans as plans
use Rattle.esr_plan.proofs.Placing.{places_kept, places_more, places_opened, resolved_none, resolved_more}

onto-current : (done : List (List Command)) (cur : List Command) (c : Command) → onto_last c (done ++ cur ∷ []) ≡ done ++ (cur ++ c ∷ []) ∷ []
onto-current (b ∷ next ∷ done) cur c = ap (λ l. b ∷ l) (onto-current (next ∷ done) cur c)
onto-current _ cur c = refl

some_blocks : (done : List (List Command)) (cur : List Command) → nat_eq (length (done ++ cur ∷ [])) 0 ≡ false
some_blocks done cur = let n = length-append done (cur ∷ []) in grind (arith, nat_tests, n)

abbrev flat : List (List Command) → List Command
flat blocks = flat_map (λ commands. commands) blocks

flat-snoc : (done : List (List Command)) (cur : List Command) → flat (done ++ cur ∷ []) ≡ flat done ++ cur
flat-snoc done cur = flat_map-append (λ (l : List Command). l) done (cur ∷ []) ∙ ap (λ t. flat done ++ t) (append-nil cur)

names-onto : (done : List (List Command)) (cur : List Command) (c : Command) → new_names (done ++ (cur ++ c ∷ []) ∷ []) ≡ new_names (done ++ cur ∷ []) ++ filter_map new_name (c ∷ [])
names-onto done cur c =
    ap (filter_map new_name) (flat-snoc done (cur ++ c ∷ []) ∙ (sym (append_assoc (flat done) cur (c ∷ [])) ∙ ap (λ t. t ++ c ∷ []) (sym (flat-snoc done cur))))
    ∙ filter_map-append new_name (flat (done ++ cur ∷ [])) (c ∷ [])

abbrev plan : List (List ℕ) → List ℤ → List (Option ℕ) → List (List Command) → Plan
plan names values weights blocks = record { names = names; values = values; weights = weights; blocks = blocks }

operation_onto : (names : List (List ℕ)) (values : List ℤ) (weights : List (Option ℕ)) (done : List (List Command)) (cur : List Command) (c : Command)
    → with_operation (plan names values weights (done ++ cur ∷ [])) c ≡ Ok (plan names values weights (done ++ (cur ++ c ∷ []) ∷ []))
operation_onto names values weights done cur c = rw (some_blocks done cur) (ap (λ b. Ok (plan names values weights b)) (onto-current done cur c))

begin_onto : (names : List (List ℕ)) (values : List ℤ) (weights : List (Option ℕ)) (done : List (List Command)) (cur : List Command) (c : Command) (name : List ℕ)
    → position_of (new_names (done ++ cur ∷ [])) name ≡ None
    → with_begin (plan names values weights (done ++ cur ∷ [])) name c ≡ Ok (plan names values weights (done ++ (cur ++ c ∷ []) ∷ []))
begin_onto names values weights done cur c name free =
    let none : is_bound (new_names (done ++ cur ∷ [])) name ≡ false = ap is_some free in
    rw (some_blocks done cur, none) (ap (λ b. Ok (plan names values weights b)) (onto-current done cur c))

abbrev done_in : Draft → List (List Command)
done_in d = map (λ b. commands_in b.items) d.done.items

blocks-current : (d : Draft) (block : Vec Call Global) → d.current ≡ Some block → blocks_of d ≡ done_in d ++ commands_in block.items ∷ []
blocks-current d block is = ap (λ (o : Option (Vec Call Global)). blocks_with (done_in d) (option_map (λ b. commands_in b.items) o)) is

pub calls-current : (d : Draft) (block : Vec Call Global) → d.current ≡ Some block → current_calls d ≡ block.items
calls-current d block is = ap (λ (o : Option (Vec Call Global)). elim o [ Some b ↦ b.items | None ↦ [] ]) is

pushed : (block grown : Vec Call Global) (call : Call) → grown.items ≡ block.items ++ call ∷ [] → commands_in grown.items ≡ commands_in block.items ++ command_of call ∷ []
pushed block grown call more = ap commands_in more ∙ map-append command_of block.items (call ∷ [])

-- one more call in the open block, and the transaction that it begins, if it does
grown_sound : (d : Draft) (block grown : Vec Call Global) (begun : List (List ℕ)) (places : Vec ℕ Global) (call : Call) → IsSound d → d.current ≡ Some block → grown.items ≡ block.items ++ call ∷ []
    → begun ≡ new_names (blocks_of d) ++ filter_map new_name (command_of call ∷ []) → length places.items ≡ length begun → length d.begun ≤ length begun
    → ArePlaces (current_calls d ++ call ∷ []) d.earlier places.items begun → IsResolved d.names (current_calls d) call
    → IsSound (record d { current = Some grown; begun = begun; places = places })
grown_sound d block grown begun places call sound is more named every longer placed resolves =
    let c = command_of call in
    let cur = commands_in block.items in
    let now = blocks-current d block is in
    let then : commands_in grown.items ≡ cur ++ c ∷ [] = pushed block grown call more in
    let onto : grown.items ≡ current_calls d ++ call ∷ [] = more ∙ ap (λ (l : List Call). l ++ call ∷ []) (sym (calls-current d block is)) in
    record {
      begun = named ∙ (ap (λ b. new_names b ++ filter_map new_name (c ∷ [])) now ∙ (sym (names-onto (done_in d) cur c) ∙ ap (λ l. new_names (done_in d ++ l ∷ [])) (sym then)));
      values = sound.values;
      weights = sound.weights;
      in_range = sound.in_range;
      weighed = sound.weighed;
      opened = tt;
      items = sound.items;
      blocks = omega (arith, sound.blocks, ap length now, length-append (done_in d) (cur ∷ []), length-append (done_in d) (commands_in grown.items ∷ []));
      every = every;
      earlier = omega (arith, sound.earlier, longer);
      places = subst (λ (l : List Call). ArePlaces l d.earlier places.items begun) (sym onto) placed;
      resolved = subst (λ (l : List Call). AreResolved d.names l) (sym onto) (resolved_more d.names (current_calls d) call sound.resolved resolves);
      done_resolved = sound.done_resolved;
    }

-- a call that begins no transaction
pub operation_added : (d : Draft) (block grown : Vec Call Global) (call : Call) → IsSound d → d.current ≡ Some block → grown.items ≡ block.items ++ call ∷ []
    → new_name (command_of call) ≡ None → IsResolved d.names (current_calls d) call
    → IsSound (record d { current = Some grown }) × (with_operation (plan_in d) (command_of call) ≡ Ok (plan_in (record d { current = Some grown })))
operation_added d block grown call sound is more plain resolves =
    let c = command_of call in
    let cur = commands_in block.items in
    let none : filter_map new_name (c ∷ []) ≡ [] = rw plain refl in (
      grown_sound d block grown d.begun d.places call sound is more
          (sound.begun ∙ (sym (append-nil (new_names (blocks_of d))) ∙ ap (λ l. new_names (blocks_of d) ++ l) (sym none)))
          sound.every (omega arith) (places_kept (current_calls d) call d.earlier d.places.items d.begun plain sound.places) resolves,
      ap (λ b. with_operation (plan d.names d.values.items d.weights.items b) c) (blocks-current d block is)
          ∙ (operation_onto d.names d.values.items d.weights.items (done_in d) cur c ∙ ap (λ l. Ok (plan d.names d.values.items d.weights.items (done_in d ++ l ∷ []))) (sym (pushed block grown call more))),
    )

pub begins_name : (k : TxnKind) (name : List ℕ) (limit : ℕ) → new_name (begin_command k name limit) ≡ Some name
begins_name kind.Update name limit = refl
begins_name kind.Query name limit = refl
begins_name kind.StrictQuery name limit = refl

-- a call that begins a transaction
pub begin_added : (d : Draft) (block grown : Vec Call Global) (begun : List (List ℕ)) (places : Vec ℕ Global) (call : Call) (name : List ℕ) → IsSound d → d.current ≡ Some block → grown.items ≡ block.items ++ call ∷ []
    → new_name (command_of call) ≡ Some name → position_of d.begun name ≡ None → begun ≡ d.begun ++ name ∷ [] → IsResolved d.names (current_calls d) call
    → places.items ≡ d.places.items ++ length (current_calls d) ∷ []
    → IsSound (record d { current = Some grown; begun = begun; places = places })
    × (with_begin (plan_in d) name (command_of call) ≡ Ok (plan_in (record d { current = Some grown; begun = begun; places = places })))
begin_added d block grown begun places call name sound is more named free bound resolves placed =
    let c = command_of call in
    let cur = commands_in block.items in
    let now = blocks-current d block is in
    let one : filter_map new_name (c ∷ []) ≡ name ∷ [] = rw named refl in
    let was : d.begun ≡ new_names (done_in d ++ cur ∷ []) = sound.begun ∙ ap new_names now in
    let longer = length-append d.begun (name ∷ []) in (
      grown_sound d block grown begun places call sound is more
          (bound ∙ (ap (λ l. l ++ name ∷ []) sound.begun ∙ ap (λ l. new_names (blocks_of d) ++ l) (sym one)))
          (omega (arith, sound.every, ap length bound, ap length placed, longer, length-append d.places.items (length (current_calls d) ∷ [])))
          (omega (arith, ap length bound, longer))
          (subst (λ (ps : List ℕ). ArePlaces (current_calls d ++ call ∷ []) d.earlier ps begun) (sym placed)
          (subst (λ (ns : List (List ℕ)). ArePlaces (current_calls d ++ call ∷ []) d.earlier (d.places.items ++ length (current_calls d) ∷ []) ns) (sym bound)
          (places_more (current_calls d) call d.earlier d.places.items d.begun name sound.places sound.every sound.earlier named free))) resolves,
      ap (λ b. with_begin (plan d.names d.values.items d.weights.items b) name c) now
          ∙ (begin_onto d.names d.values.items d.weights.items (done_in d) cur c name (subst (λ (l : List (List ℕ)). position_of l name ≡ None) was free) ∙ ap (λ l. Ok (plan d.names d.values.items d.weights.items (done_in d ++ l ∷ []))) (sym (pushed block grown call more))),
    )

-- a block that is opened, after the completed ones
pub session_opened : (d : Draft) (done : Vec (Vec Call Global) Global) (fresh : Vec Call Global) (since : ℕ) → IsSound d
    → blocks_of d ≡ map (λ b. commands_in b.items) done.items → All (λ b. AreResolved d.names b.items) done.items → length done.items < 64 → fresh.items ≡ [] → since ≡ length d.begun
    → IsSound (record d { done = done; current = Some fresh; earlier = since })
    × (with_session (plan_in d) ≡ Ok (plan_in (record d { done = done; current = Some fresh; earlier = since })))
session_opened d done fresh since sound now resolves count_within_max none is =
    let blocks = map (λ (b : Vec Call Global). commands_in b.items) done.items in
    let opened : commands_in fresh.items ≡ [] = ap commands_in none in
    let len : length blocks ≡ length done.items = length-map done.items (λ (b : Vec Call Global). commands_in b.items) in (
      record {
        begun = sound.begun ∙ (ap new_names now ∙ (ap (filter_map new_name) (sym (append-nil (flat blocks)) ∙ sym (flat-snoc blocks [])) ∙ ap (λ l. new_names (blocks ++ l ∷ [])) (sym opened)));
        values = sound.values;
        weights = sound.weights;
        in_range = sound.in_range;
        weighed = sound.weighed;
        opened = tt;
        items = sound.items;
        blocks = omega (arith, count_within_max, len, length-append blocks (commands_in fresh.items ∷ []));
        every = sound.every;
        earlier = omega (arith, is);
        places = subst (λ (l : List Call). ArePlaces l since d.places.items d.begun) (sym none) (places_opened d.places.items d.begun since is);
        resolved = subst (λ (l : List Call). AreResolved d.names l) (sym none) (resolved_none d.names);
        done_resolved = resolves;
      },
      ap (λ b. with_session (plan d.names d.values.items d.weights.items b)) now
          ∙ (with_opened blocks (omega (arith, count_within_max, len)) ∙ ap (λ l. Ok (plan d.names d.values.items d.weights.items (blocks ++ l ∷ []))) (sym opened)),
    )
  where
    with_opened : (blocks : List (List Command)) → length blocks < 64 → with_session (plan d.names d.values.items d.weights.items blocks) ≡ Ok (plan d.names d.values.items d.weights.items (blocks ++ [] ∷ []))
    with_opened blocks count_within_max = let less : nat_eq (length blocks) 64 ≡ false = grind (arith, nat_tests) in rw less refl

-- the completed blocks, with the open one if there is one
pub done_with : (d : Draft) (done : Vec (Vec Call Global) Global) (block : Vec Call Global) → IsSound d → d.current ≡ Some block → done.items ≡ d.done.items ++ block ∷ []
    → (blocks_of d ≡ map (λ b. commands_in b.items) done.items) × All (λ b. AreResolved d.names b.items) done.items
done_with d done block sound is more = (
  blocks-current d block is ∙ sym (ap (map (λ (b : Vec Call Global). commands_in b.items)) more ∙ map-append (λ (b : Vec Call Global). commands_in b.items) d.done.items (block ∷ [])),
  subst (λ (l : List (Vec Call Global)). All (λ b. AreResolved d.names b.items) l) (sym more)
      (All-push (λ (b : Vec Call Global). AreResolved d.names b.items) d.done.items block sound.done_resolved (subst (λ (l : List Call). AreResolved d.names l) (calls-current d block is) sound.resolved)),
)

pub done_alone : (d : Draft) (done : Vec (Vec Call Global) Global) → IsSound d → d.current ≡ None → done.items ≡ d.done.items
    → (blocks_of d ≡ map (λ b. commands_in b.items) done.items) × All (λ b. AreResolved d.names b.items) done.items
done_alone d done sound is same = (
  ap (λ (o : Option (Vec Call Global)). blocks_with (done_in d) (option_map (λ b. commands_in b.items) o)) is ∙ ap (map (λ (b : Vec Call Global). commands_in b.items)) (sym same),
  subst (λ (l : List (Vec Call Global)). All (λ b. AreResolved d.names b.items) l) (sym same) sound.done_resolved,
)

-- no block is complete if none is open
pub none_done : (d : Draft) → IsSound d → d.current ≡ None → d.done.items ≡ []
none_done d sound is = subst (λ (o : Option (Vec Call Global)). elim o as (λ x. Type 0) [ Some block ↦ Unit {0} | None ↦ d.done.items ≡ [] ]) is sound.opened

item_onto : (names : List (List ℕ)) (values : List ℤ) (weights : List (Option ℕ)) (name : List ℕ) (value : ℤ) (weight : Option ℕ)
    → is_bound names name ≡ false → is_value value ≡ true → nat_eq (length names) 4096 ≡ false → is_weight (weight_in weight) ≡ true
    → with_item (plan names values weights []) name value weight ≡ Ok (plan (names ++ name ∷ []) (values ++ value ∷ []) (weights ++ weight ∷ []) [])
item_onto names values weights name value weight free ranged count_within_max weighed = rw (free, ranged, count_within_max, weighed) refl

-- an item
pub item_added : (d : Draft) (names : List (List ℕ)) (values : Vec ℤ Global) (weights : Vec (Option ℕ) Global) (name : List ℕ) (value : ℤ) (weight : Option ℕ) → IsSound d → d.current ≡ None
    → position_of d.names name ≡ None → IsValue value → length d.names < 4096 → is_weight (weight_in weight) ≡ true
    → names ≡ d.names ++ name ∷ [] → values.items ≡ d.values.items ++ value ∷ [] → weights.items ≡ d.weights.items ++ weight ∷ []
    → IsSound (record d { names = names; values = values; weights = weights })
    × (with_item (plan_in d) name value weight ≡ Ok (plan_in (record d { names = names; values = values; weights = weights })))
item_added d names values weights name value weight sound is free ranged count_within_max weighed named valued given =
    let none : d.done.items ≡ [] = none_done d sound is in
    let no_blocks : blocks_of d ≡ [] = ap (λ (o : Option (Vec Call Global)). blocks_with (done_in d) (option_map (λ b. commands_in b.items) o)) is ∙ ap (map (λ (b : Vec Call Global). commands_in b.items)) none in
    let no_calls : current_calls d ≡ [] = ap (λ (o : Option (Vec Call Global)). elim o [ Some b ↦ b.items | None ↦ [] ]) is in
    let fits : IsWeight (weight_in weight) = fits_of (weight_in weight) weighed in (
      record {
        begun = sound.begun;
        values = omega (arith, sound.values, ap length named, ap length valued, length-append d.names (name ∷ []), length-append d.values.items (value ∷ []));
        weights = omega (arith, sound.weights, ap length named, ap length given, length-append d.names (name ∷ []), length-append d.weights.items (weight ∷ []));
        in_range = subst (λ (l : List ℤ). All IsValue l) (sym valued) (All-push IsValue d.values.items value sound.in_range ranged);
        weighed = subst (λ (l : List ℕ). All IsWeight l) (sym (ap weights_of given ∙ map-append weight_in d.weights.items (weight ∷ [])))
            (All-push IsWeight (weights_of d.weights.items) (weight_in weight) sound.weighed fits);
        opened = sound.opened;
        items = omega (arith, count_within_max, ap length named, length-append d.names (name ∷ []));
        blocks = sound.blocks;
        every = sound.every;
        earlier = sound.earlier;
        places = sound.places;
        resolved = subst (λ (l : List Call). AreResolved names l) (sym no_calls) (resolved_none names);
        done_resolved = subst (λ (l : List (Vec Call Global)). All (λ b. AreResolved names b.items) l) (sym none) (λ i b lt. absurd (omega (arith, lt)));
      },
      ap (λ b. with_item (plan d.names d.values.items d.weights.items b) name value weight) no_blocks
          ∙ (item_onto d.names d.values.items d.weights.items name value weight (ap is_some free) (in_values value ranged) (not_all (length d.names) count_within_max) weighed
          ∙ sym (ap (λ n. Ok (plan n values.items weights.items (blocks_of d))) named
          ∙ (ap (λ v. Ok (plan (d.names ++ name ∷ []) v weights.items (blocks_of d))) valued
          ∙ (ap (λ w. Ok (plan (d.names ++ name ∷ []) (d.values.items ++ value ∷ []) w (blocks_of d))) given
          ∙ ap (λ b. Ok (plan (d.names ++ name ∷ []) (d.values.items ++ value ∷ []) (d.weights.items ++ weight ∷ []) b)) no_blocks)))),
    )
  where
    fits_of : (w : ℕ) → is_weight w ≡ true → IsWeight w
    fits_of w is = (grind (arith, nat_tests, is), grind (arith, nat_tests, is))

    in_values : (v : ℤ) → IsValue v → is_value v ≡ true
    in_values v le = grind (arith, nat_tests)

    not_all : (n : ℕ) → n < 4096 → nat_eq n 4096 ≡ false
    not_all n lt = grind (arith, nat_tests)

-- the sheet of a draft
pub plan_made : (d : Draft) (blocks : Vec (Vec Call Global) Global) → IsSound d
    → (blocks_of d ≡ map (λ b. commands_in b.items) blocks.items) × All (λ b. AreResolved d.names b.items) blocks.items
    → (plans.plan_in (record { names = d.names; values = d.values; weights = d.weights; blocks = blocks }) ≡ plan_in d)
    × plans.IsSound (record { names = d.names; values = d.values; weights = d.weights; blocks = blocks })
plan_made d blocks sound is = (
  ap (λ b. plan d.names d.values.items d.weights.items b) (sym is.0),
  record {
    values = sound.values;
    weights = sound.weights;
    in_range = sound.in_range;
    weighed = sound.weighed;
    items = sound.items;
    blocks = omega (arith, sound.blocks, ap length is.0, length-map blocks.items (λ (b : Vec Call Global). commands_in b.items));
    resolved = is.1;
  },
)

-- ---- a draft whose open block was added to the others

pub record Opens (d m : Draft) : Type 0 where
  pub same : m ≡ record d { done = m.done; current = None }
  pub now : blocks_of d ≡ map (λ b. commands_in b.items) m.done.items
  pub resolves : All (λ b. AreResolved d.names b.items) m.done.items
  pub count_within_max : length m.done.items < 64

pub opens_none : (d m : Draft) (taken : Option (Vec Call Global)) → IsSound d → d.current ≡ None → m ≡ record d { current = taken } → taken ≡ None → Opens d m
opens_none d m taken sound is same none =
    let done : m.done ≡ d.done = ap (λ (x : Draft). x.done) same in
    let alone = done_alone d m.done sound is (ap (λ (v : Vec (Vec Call Global) Global). v.items) done) in
    let empty : m.done.items ≡ [] = ap (λ (v : Vec (Vec Call Global) Global). v.items) done ∙ none_done d sound is in
    record {
      same = same ∙ (ap (λ (o : Option (Vec Call Global)). record d { current = o }) none ∙ ap (λ (v : Vec (Vec Call Global) Global). record d { done = v; current = None }) (sym done));
      now = alone.0;
      resolves = alone.1;
      count_within_max = omega (arith, ap length empty);
    }

pub opens_some : (d m : Draft) (taken : Option (Vec Call Global)) (grown : Vec (Vec Call Global) Global) (block : Vec Call Global) → IsSound d → d.current ≡ Some block
    → m ≡ record d { done = grown; current = taken } → taken ≡ None → grown.items ≡ d.done.items ++ block ∷ [] → length d.done.items + 1 < 64 → Opens d m
opens_some d m taken grown block sound is same none more count_within_max =
    let done : m.done ≡ grown = ap (λ (x : Draft). x.done) same in
    let items : m.done.items ≡ d.done.items ++ block ∷ [] = ap (λ (v : Vec (Vec Call Global) Global). v.items) done ∙ more in
    let with = done_with d m.done block sound is items in
    record {
      same = same ∙ (ap (λ (o : Option (Vec Call Global)). record d { done = grown; current = o }) none ∙ ap (λ (v : Vec (Vec Call Global) Global). record d { done = v; current = None }) (sym done));
      now = with.0;
      resolves = with.1;
      count_within_max = omega (arith, count_within_max, ap length items, length-append d.done.items (block ∷ []));
    }

pub session_after : (d m : Draft) (fresh : Vec Call Global) (since : ℕ) → IsSound d → Opens d m → fresh.items ≡ [] → since ≡ length m.begun
    → IsSound (record m { current = Some fresh; earlier = since }) × (with_session (plan_in d) ≡ Ok (plan_in (record m { current = Some fresh; earlier = since })))
session_after d m fresh since sound opens none is =
    subst (λ (x : Draft). IsSound (record x { current = Some fresh; earlier = since }) × (with_session (plan_in d) ≡ Ok (plan_in (record x { current = Some fresh; earlier = since })))) (sym opens.same)
    (session_opened d m.done fresh since sound opens.now opens.resolves opens.count_within_max none (is ∙ ap (λ (x : Draft). length x.begun) opens.same))
