-- The events that a legal history accepts, step by step: its operations, ends and begins, and the preconditions of each
-- step.
use Rattle.std.proofs.Common.{◌≡◌, ℕ, ◌+◌, ◌*◌, ◌≤◌, ℤ, Bool, true, false, not, ◌&&◌, ◌||◌, ◌⊎◌, List, [], ◌∷◌, ◌++◌, filter, eqb, Option, count_by, map, is_some, unwrap_or, option_map}
use Rattle.std.specs.List.{list_any}
use Rattle.esr_history.specs.Events.{BeginRecord, last_value}
use Rattle.esr_history.specs.Operations.{Operation}
use Rattle.esr_history.proofs.Membership.{In}

-- the opening values and the metric
pub record Setting : Type 0 where
  pub opening : ℕ → ℤ
  pub distance : ℕ → ℤ → ℤ → ℕ

pub record IsMetric (d : ℕ → ℤ → ℤ → ℕ) : Type 0 where
  pub same : (x : ℕ) (a : ℤ) → d x a a ≡ 0
  pub symmetric : (x : ℕ) (a b : ℤ) → d x a b ≡ d x b a
  pub triangle : (x : ℕ) (a b c : ℤ) → d x a c ≤ d x a b + d x b c

abbrev pub writes_item : ℕ → Operation → Bool
writes_item x o = o.writes && eqb o.item x

abbrev pub reads_item : ℕ → Operation → Bool
reads_item x o = not o.writes && eqb o.item x

-- the value after a sequence of writes over v
abbrev pub after_writes : ℤ → List Operation → ℤ
after_writes v ws = last_value v (map (λ w. w.value) ws)

pub record Trace : Type 0 where
  pub operations : List Operation
  pub commits : List ℕ
  pub aborts : List ℕ
  pub begin_record : ℕ → Option BeginRecord

abbrev pub is_among : List ℕ → ℕ → Bool
is_among ts t = list_any (λ u. eqb u t) ts

abbrev pub holds_of : (BeginRecord → Bool) → Option BeginRecord → Bool
holds_of test b = unwrap_or (option_map test b) false

abbrev pub update_in : Trace → ℕ → Bool
update_in t u = holds_of (λ b. not b.query) (t.begin_record u)

abbrev pub query_in : Trace → ℕ → Bool
query_in t u = holds_of (λ b. b.query) (t.begin_record u)

abbrev pub begun_in : Trace → ℕ → Bool
begun_in t u = is_some (t.begin_record u)

abbrev pub ended_in : Trace → ℕ → Bool
ended_in t u = is_among t.commits u || is_among t.aborts u

abbrev pub current_in : (ℕ → ℤ) → Trace → ℕ → ℤ
current_in o t x = after_writes (o x) (filter (λ w. writes_item x w && not (is_among t.aborts w.txn)) t.operations)

abbrev pub committed_in : (ℕ → ℤ) → Trace → ℕ → ℤ
committed_in o t x = after_writes (o x) (filter (λ w. writes_item x w && is_among t.commits w.txn) t.operations)

-- begun, and not ended
pub record Active (t : Trace) (u : ℕ) : Type 0 where
  pub begun : begun_in t u ≡ true
  pub open_ended : ended_in t u ≡ false

-- no other active update has written x
pub record NoOtherWriter (t : Trace) (u x : ℕ) : Type 0 where
  pub none : (o : Operation) → In o t.operations → o.writes ≡ true → o.item ≡ x → (o.txn ≡ u → ⊥) → update_in t o.txn ≡ true → ended_in t o.txn ≡ true

-- nor read it
pub record NoOtherUser (t : Trace) (u x : ℕ) : Type 0 where
  pub none : (o : Operation) → In o t.operations → o.item ≡ x → (o.txn ≡ u → ⊥) → update_in t o.txn ≡ true → ended_in t o.txn ≡ true

abbrev pub with_operation : Trace → Operation → Trace
with_operation t o = record t { operations = t.operations ++ o ∷ [] }

abbrev pub with_commit : Trace → ℕ → Trace
with_commit t u = record t { commits = t.commits ++ u ∷ [] }

abbrev pub with_abort : Trace → ℕ → Trace
with_abort t u = record t { aborts = t.aborts ++ u ∷ [] }

abbrev pub with_begins : Trace → (ℕ → Option BeginRecord) → Trace
with_begins t b = record t { begin_record = b }

-- how a transaction began stays
abbrev pub Keeps : (ℕ → Option BeginRecord) → (ℕ → Option BeginRecord) → Type 0
Keeps before then = (u : ℕ) → is_some (before u) ≡ true → then u ≡ before u

abbrev pub read_count_in : Trace → ℕ → ℕ → ℕ
read_count_in t x q = count_by (λ o. reads_item x o && eqb o.txn q) t.operations

abbrev pub read_of : ℕ → ℕ → ℤ → Operation
read_of u x v = record { txn = u; item = x; writes = false; value = v }

abbrev pub write_of : ℕ → ℕ → ℤ → Operation
write_of u x v = record { txn = u; item = x; writes = true; value = v }

-- the traces of legal histories, with the amount charged to each query
pub data Reached (s : Setting) : Trace → (ℕ → ℕ) → Type 0 where
  nothing : {b : ℕ → Option BeginRecord} → Reached s (record { operations = []; commits = []; aborts = []; begin_record = b }) (λ _. 0)
  begin : {t : Trace} {m : ℕ → ℕ} → Reached s t m → (b : ℕ → Option BeginRecord) → Keeps t.begin_record b → Reached s (with_begins t b) m
  read_update : {t : Trace} {m : ℕ → ℕ} → Reached s t m → (u x : ℕ) → Active t u → update_in t u ≡ true → NoOtherWriter t u x →
      Reached s (with_operation t (read_of u x (current_in s.opening t x))) m
  read_query : {t : Trace} {m : ℕ → ℕ} → Reached s t m → (u x : ℕ) (c : ℕ → ℕ) → Active t u → update_in t u ≡ false →
      NoOtherWriter t u x ⊎ (s.distance x (current_in s.opening t x) (committed_in s.opening t x) ≤ c u) →
      Reached s (with_operation t (read_of u x (current_in s.opening t x))) (λ q. m q + c q)
  write : {t : Trace} {m : ℕ → ℕ} → Reached s t m → (u x : ℕ) (v : ℤ) (c : ℕ → ℕ) → Active t u → update_in t u ≡ true → NoOtherUser t u x →
      ((q : ℕ) → Active t q → query_in t q ≡ true → read_count_in t x q * s.distance x v (current_in s.opening t x) ≤ c q) →
      Reached s (with_operation t (write_of u x v)) (λ q. m q + c q)
  commit : {t : Trace} {m : ℕ → ℕ} → Reached s t m → (u : ℕ) → Active t u → Reached s (with_commit t u) m
  abort : {t : Trace} {m : ℕ → ℕ} → Reached s t m → (u : ℕ) → Active t u → Reached s (with_abort t u) m

-- each accepted step preserves P
pub record IsKept (s : Setting) (P : Trace → (ℕ → ℕ) → Type 0) : Type 0 where
  pub begins : (t : Trace) (m : ℕ → ℕ) → P t m → (b : ℕ → Option BeginRecord) → Keeps t.begin_record b → P (with_begins t b) m
  pub update_reads : (t : Trace) (m : ℕ → ℕ) → P t m → (u x : ℕ) → Active t u → update_in t u ≡ true → NoOtherWriter t u x →
      P (with_operation t (read_of u x (current_in s.opening t x))) m
  pub query_reads : (t : Trace) (m : ℕ → ℕ) → P t m → (u x : ℕ) (c : ℕ → ℕ) → Active t u → update_in t u ≡ false →
      NoOtherWriter t u x ⊎ (s.distance x (current_in s.opening t x) (committed_in s.opening t x) ≤ c u) →
      P (with_operation t (read_of u x (current_in s.opening t x))) (λ q. m q + c q)
  pub writes : (t : Trace) (m : ℕ → ℕ) → P t m → (u x : ℕ) (v : ℤ) (c : ℕ → ℕ) → Active t u → update_in t u ≡ true → NoOtherUser t u x →
      ((q : ℕ) → Active t q → query_in t q ≡ true → read_count_in t x q * s.distance x v (current_in s.opening t x) ≤ c q) →
      P (with_operation t (write_of u x v)) (λ q. m q + c q)
  pub commits : (t : Trace) (m : ℕ → ℕ) → P t m → (u : ℕ) → Active t u → P (with_commit t u) m
  pub aborts : (t : Trace) (m : ℕ → ℕ) → P t m → (u : ℕ) → Active t u → P (with_abort t u) m

pub reached_kept : (s : Setting) → IsKept s (Reached s)
reached_kept s = record {
  begins = λ t m r b k. begin r b k;
  update_reads = λ t m r u x a up free. read_update r u x a up free;
  query_reads = λ t m r u x c a up paid. read_query r u x c a up paid;
  writes = λ t m r u x v c a up free paid. write r u x v c a up free paid;
  commits = λ t m r u a. commit r u a;
  aborts = λ t m r u a. abort r u a;
}
