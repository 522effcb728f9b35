-- The definitions over a history and those over its trace agree.
use Rattle.std.proofs.Common.{◌≡◌, ℕ, ◌+◌, Bool, true, false, cond, not, ◌&&◌, ◌||◌, ◌==◌, List, [], ◌∷◌, refl, sym, ◌∙◌, ap, arith, filter, eqb, Option, Some, None, count_by, map, flat_map, unwrap_or, option_map}
use Rattle.std.specs.List.{list_any, filter_map, cons_option}
use Rattle.std.proofs.Math.Path.{fun_ext}
use Rattle.std.proofs.lemmas.Bool.{or_parts, or_from}
use Rattle.std.proofs.lemmas.List.{map-append}
use Rattle.std.proofs.lemmas.List.Sums.{sum_by-cons}
use mathlib.Core.Bool.{and_comm}
use Rattle.esr_items.specs.Values.{value_at}
use Rattle.esr_history.specs.Events.{is_refusal, begin_record, is_active, is_committed, is_aborted, reads, writes, read_count, written, last_value, committed_value, current_value, BeginRecord, is_query, is_update, Event, BeginUpdate, BeginQuery, Read, Write, Commit, Abort, Reply, Entry}
use Rattle.esr_history.specs.Machine.{Schedule, accepted_in}
use Rattle.esr_history.specs.Operations.{Operation, operation_by, operation_of, operations, commit_order, answer}
use Rattle.esr_history.specs.Serial.{values_by, state}
use Rattle.esr_history.proofs.WellFormed.{active_parts}
use Rattle.esr_history.proofs.Traces.{Trace, is_among, writes_item, reads_item, after_writes, committed_in, current_in, Active, read_count_in}
use Rattle.esr_history.proofs.Versions.{wrote_by, state_in}

abbrev pub aborter : Event → Option ℕ
aborter (Abort t) = Some t.0
aborter _ = None

-- the operations, ends and begins of a history
abbrev pub trace : Schedule → Trace
trace h = record { operations = operations h; commits = commit_order (accepted_in h); aborts = filter_map aborter (accepted_in h); begin_record = begin_record (accepted_in h) }

abbrev accepts : Entry → Bool
accepts e = not (is_refusal e.reply)

abbrev pub any_of : {Y : Type 0} → (Y → Bool) → Option Y → Bool
any_of q None = false
any_of q (Some y) = q y

any-cons_option : {Y : Type 0} (q : Y → Bool) (o : Option Y) (ys : List Y) → list_any q (cons_option o ys) ≡ (any_of q o || list_any q ys)
any-cons_option q None ys = refl
any-cons_option q (Some y) ys = refl

-- a test of some element, and one of the results of the elements
pub any_given : {X Y : Type 0} (f : X → Option Y) (p : X → Bool) (q : Y → Bool) → ((x : X) → p x ≡ any_of q (f x)) → (xs : List X) → list_any p xs ≡ list_any q (filter_map f xs)
any_given f p q same [] = refl
any_given f p q same (x ∷ xs) = ap (λ b. b || list_any p xs) (same x) ∙ (ap (λ b. any_of q (f x) || b) (any_given f p q same xs) ∙ sym (any-cons_option q (f x) (filter_map f xs)))

pub committed_among : (events : List Event) (u : ℕ) → is_committed events u ≡ is_among (commit_order events) u
committed_among events u = grind (arith, any_given, eqb)

pub aborted_among : (events : List Event) (u : ℕ) → is_aborted events u ≡ is_among (filter_map aborter events) u
aborted_among events u = grind (arith, any_given, eqb)

-- the values written to an item, and those of operations on it
written_kept : (k : ℕ → Bool) (x : ℕ) (es : List Entry) → filter_map (written k x) (map (λ e. e.event) es) ≡ map (λ o. o.value) (filter (λ o. writes_item x o && k o.txn) (filter_map operation_of es))
written_kept k x [] = refl
written_kept k x (e ∷ es) = grind (arith, written_kept k x es, map, cond, filter, writes_item)

-- the transactions that used an item, and how often each read it
any_kept : (p : Event → Bool) (q : Operation → Bool) → ((e : Event) (r : Reply) → p e ≡ any_of q (operation_by e r)) → (es : List Entry) → list_any p (map (λ e. e.event) es) ≡ list_any q (filter_map operation_of es)
any_kept p q same es = over es ∙ any_given operation_of (λ e. p e.event) q (λ e. same e.event e.reply) es
  where
    over : (es : List Entry) → list_any p (map (λ e. e.event) es) ≡ list_any (λ e. p e.event) es
    over [] = refl
    over (e ∷ es) = ap (λ b. p e.event || b) (over es)

abbrev pub read_item_by : ℕ → ℕ → Operation → Bool
read_item_by x t o = reads_item x o && eqb o.txn t

read_kept : (t x : ℕ) (es : List Entry) → count_by (reads t x) (map (λ e. e.event) es) ≡ count_by (λ o. reads_item x o && eqb o.txn t) (filter_map operation_of es)
read_kept t x [] = refl
read_kept t x (e ∷ es) =
    sum_by-cons (λ f. cond (reads t x f) 1 0) e.event (map (λ e. e.event) es)
    ∙ (ap (λ n. cond (reads t x e.event) 1 0 + n) (read_kept t x es)
    ∙ at e.event e.reply (filter_map operation_of es))
  where
    at : (ev : Event) (r : Reply) (os : List Operation) → cond (reads t x ev) 1 0 + count_by (λ o. reads_item x o && eqb o.txn t) os ≡ count_by (λ o. reads_item x o && eqb o.txn t) (cons_option (operation_by ev r) os)
    at (BeginUpdate l) r os = omega arith
    at (BeginQuery l s) r os = omega arith
    at (Read u y) r os =
        ap (λ b. cond b 1 0 + count_by (λ o. reads_item x o && eqb o.txn t) os) (and_comm (u.0 == t) (y.0 == x))
        ∙ sym (sum_by-cons (λ o. cond (reads_item x o && eqb o.txn t) 1 0) (record { txn = u.0; item = y.0; writes = false; value = answer r }) os)
    at (Write u y v) r os = sym (sum_by-cons (λ o. cond (reads_item x o && eqb o.txn t) 1 0) (record { txn = u.0; item = y.0; writes = true; value = v }) os)
    at (Commit u) r os = omega arith
    at (Abort u) r os = omega arith

-- a query is not an update
pub query_not_update : (events : List Event) (t : ℕ) → is_query events t ≡ true → is_update events t ≡ false
query_not_update events t is = at (begin_record events t) is
  where
    at : (b : Option BeginRecord) → unwrap_or (option_map (λ c. c.query) b) false ≡ true → unwrap_or (option_map (λ c. not c.query) b) false ≡ false
    at None q = refl
    at (Some b) q = ap not q

module _ (h : Schedule) where
  pub written_trace : (k : ℕ → Bool) (x : ℕ) → filter_map (written k x) (accepted_in h) ≡ map (λ o. o.value) (filter (λ o. writes_item x o && k o.txn) (operations h))
  written_trace k x = written_kept k x (filter accepts h.entries)

  pub wrote_trace : (t x : ℕ) → list_any (writes t x) (accepted_in h) ≡ list_any (wrote_by x t) (operations h)
  wrote_trace t x = grind (arith, any_kept, wrote_by x t, filter accepts h.entries)

  pub read_trace : (t x : ℕ) → list_any (reads t x) (accepted_in h) ≡ list_any (read_item_by x t) (operations h)
  read_trace t x = grind (arith, any_kept, filter accepts h.entries)

  pub reads_trace : (t x : ℕ) → read_count (accepted_in h) t x ≡ read_count_in (trace h) x t
  reads_trace t x = read_kept t x (filter accepts h.entries)

  pub committed_trace : (x : ℕ) → committed_value h.opening (accepted_in h) x ≡ committed_in (value_at h.opening) (trace h) x
  committed_trace x =
      ap (last_value (value_at h.opening x)) (written_trace (is_committed (accepted_in h)) x)
      ∙ ap (λ (k : ℕ → Bool). after_writes (value_at h.opening x) (filter (λ o. writes_item x o && k o.txn) (operations h))) (fun_ext (committed_among (accepted_in h)))

  pub current_trace : (x : ℕ) → current_value h.opening (accepted_in h) x ≡ current_in (value_at h.opening) (trace h) x
  current_trace x =
      ap (last_value (value_at h.opening x)) (written_trace (λ t. not (is_aborted (accepted_in h) t)) x)
      ∙ ap (λ (k : ℕ → Bool). after_writes (value_at h.opening x) (filter (λ o. writes_item x o && not (k o.txn)) (operations h))) (fun_ext (aborted_among (accepted_in h)))

  pub values_trace : (x u : ℕ) → values_by h x u ≡ map (λ o. o.value) (filter (wrote_by x u) (operations h))
  values_trace x u = written_trace (λ t. t == u) x

  flat_values : (x : ℕ) (us : List ℕ) → flat_map (values_by h x) us ≡ map (λ o. o.value) (flat_map (λ u. filter (wrote_by x u) (operations h)) us)
  flat_values x [] = refl
  flat_values x (u ∷ us) =
      grind (arith, flat_map (values_by h x) us, values_trace, map, filter, wrote_by, flat_values x us, map-append, flat_map)

  pub state_trace : (us : List ℕ) (x : ℕ) → state h us x ≡ state_in (value_at h.opening) (trace h) us x
  state_trace us x = ap (last_value (value_at h.opening x)) (flat_values x us)

  pub active_trace : (u : ℕ) → is_active (accepted_in h) u ≡ true → Active (trace h) u
  active_trace u is =
      let p = active_parts (accepted_in h) u is in
      record {
        begun = p.0;
        open_ended = or_from (is_among (trace h).commits u) (is_among (trace h).aborts u) (sym (committed_among (accepted_in h) u) ∙ p.1) (sym (aborted_among (accepted_in h) u) ∙ p.2);
      }

  pub trace_active : (u : ℕ) → Active (trace h) u → is_active (accepted_in h) u ≡ true
  trace_active u a =
      let p = or_parts (is_among (trace h).commits u) (is_among (trace h).aborts u) a.open_ended in
      rw (a.begun, committed_among (accepted_in h) u ∙ p.0, aborted_among (accepted_in h) u ∙ p.1) refl
