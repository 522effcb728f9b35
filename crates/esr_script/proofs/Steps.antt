-- How a run continues, and how it ends.
use Rattle.std.proofs.Common.{◌≡◌, ◌≢◌, ℕ, ◌+◌, ◌<◌, ◌≤◌, List, [], ◌∷◌, ◌++◌, length, take, refl, sym, ◌∙◌, ap, arith, Option, Some, None, Ok, Err, append_assoc, append-nil, length-append, length-take, le-ltb, lt-ltb, ne_eqb, eq-eqb}
use Rattle.std.proofs.Math.Seq.{take-append_seam}
use Rattle.std.specs.Io.KnownBytes.{IsAtEnd, Consumes}
use Rattle.esr_script.specs.declared.fault.RunFault.TheVariants.{LineTooLong, TooManyLines}
use Rattle.esr_grammar.specs.Lines.{lines, whole_lines, line_len}
use Rattle.esr_grammar.specs.declared.limits.TheConstants.{MAX_LINES, MAX_LINE_BYTES}
use Rattle.esr_script.specs.Text.{ScriptState, start, answer, next_state, state_after, final, Outcome, outcome, outcome_from, outcome_of_lines, preceded_by, stopped, RunFault}
use Rattle.esr_base.specs.Watch.{BeginsWith}
use Rattle.esr_script.specs.Run.{IsWholeText}
use Rattle.esr_script.specs.Parts.{Progress, InputProgress}
use Rattle.esr_grammar.proofs.Cutting.{lines-line, whole-line, front, after_front, plain-front, split-front, lines-last, whole-none, Begins, begins}
use Rattle.esr_grammar.proofs.Prefix.{line_len-le}

-- ---- one line of an outcome

pub outcome-line : (n : ℕ) (s s' : ScriptState) (line t : List ℕ) (more : List (List ℕ)) → n ≢ MAX_LINES → length line ≤ MAX_LINE_BYTES → answer s line ≡ Ok (s', t)
    → outcome_from n s (line ∷ more) ≡ preceded_by t (outcome_from (n + 1) s' more)
outcome-line n s s' line t more count_within_max short is = rw (ne_eqb n MAX_LINES count_within_max, le-ltb MAX_LINE_BYTES (length line) short, is) refl

pub outcome-fault : (n : ℕ) (s : ScriptState) (line : List ℕ) (f : RunFault) (more : List (List ℕ)) → n ≢ MAX_LINES → length line ≤ MAX_LINE_BYTES → answer s line ≡ Err f
    → outcome_from n s (line ∷ more) ≡ stopped f
outcome-fault n s line f more count_within_max short is = rw (ne_eqb n MAX_LINES count_within_max, le-ltb MAX_LINE_BYTES (length line) short, is) refl

pub outcome-long : (n : ℕ) (s : ScriptState) (line : List ℕ) (more : List (List ℕ)) → n ≢ MAX_LINES → MAX_LINE_BYTES < length line
    → outcome_from n s (line ∷ more) ≡ stopped LineTooLong
outcome-long n s line more count_within_max long = rw (ne_eqb n MAX_LINES count_within_max, lt-ltb MAX_LINE_BYTES (length line) long) refl

pub outcome-many : (n : ℕ) (s : ScriptState) (line : List ℕ) (more : List (List ℕ)) → n ≡ MAX_LINES → outcome_from n s (line ∷ more) ≡ stopped TooManyLines
outcome-many n s line more many = rw (eq-eqb n MAX_LINES many) refl

preceded_by-preceded_by : (a b : List ℕ) (o : Outcome) → preceded_by a (preceded_by b o) ≡ preceded_by (a ++ b) o
preceded_by-preceded_by a b o = ap (λ (t : List ℕ). let r : Outcome = record { text = t; fault = o.fault } in r) (sym (append_assoc a b o.text))

preceded_by-stopped : (a : List ℕ) (f : RunFault) → preceded_by a (stopped f) ≡ record { text = a; fault = Some f }
preceded_by-stopped a f = ap (λ (t : List ℕ). let r : Outcome = record { text = t; fault = Some f } in r) (append-nil a)

preceded_by-done : (a : List ℕ) (n : ℕ) (s : ScriptState) → preceded_by a (outcome_from n s []) ≡ record { text = a; fault = None }
preceded_by-done a n s = ap (λ (t : List ℕ). let r : Outcome = record { text = t; fault = None } in r) (append-nil a)

-- ---- the state

next-is : (s s' : ScriptState) (line t : List ℕ) → answer s line ≡ Ok (s', t) → next_state s line ≡ s'
next-is s s' line t is = rw (is, next_state) refl

-- one more line is executed
pub state-more : (a s s' : ScriptState) (ls : List (List ℕ)) (line t : List ℕ) → state_after a ls ≡ s → answer s line ≡ Ok (s', t) → state_after a (ls ++ line ∷ []) ≡ s'
state-more a s s' [] line t at is = ap (λ z. next_state z line) at ∙ next-is s s' line t is
state-more a s s' (l ∷ ls) line t at is = state-more (next_state a l) s s' ls line t at is

-- ---- progress

module _ (input : List ℕ) (n : ℕ) (s : ScriptState) (w : List ℕ) where
  -- a line more
  pub step : (bytes rest : List ℕ) (s' : ScriptState) (t : List ℕ) → Progress input (bytes ++ rest) n s w → n ≢ MAX_LINES
      → line_len bytes < length bytes → line_len bytes ≤ MAX_LINE_BYTES → answer s (front bytes) ≡ Ok (s', t)
      → Progress input (after_front bytes ++ rest) (n + 1) s' (w ++ t)
  step bytes rest s' t p count_within_max ended short is =
      let l = front bytes in
      let plain : line_len l ≡ length l = plain-front bytes in
      let size : length l ≤ MAX_LINE_BYTES = omega (arith, length-take (line_len bytes) bytes, line_len-le bytes) in
      let split : input ≡ (p.used ++ (l ++ 10 ∷ [])) ++ (after_front bytes ++ rest) =
      p.split ∙ ap (λ b. p.used ++ (b ++ rest)) (split-front bytes ended) ∙ simp append_assoc in
      let counted : length (p.answered ++ l ∷ []) ≡ n + 1 = length-append p.answered (l ∷ []) ∙ ap (λ k. k + 1) p.counted in
      let cut : (b : List ℕ) → lines ((p.used ++ (l ++ 10 ∷ [])) ++ b) ≡ (p.answered ++ l ∷ []) ++ lines b =
      λ b. let moved : (p.used ++ (l ++ 10 ∷ [])) ++ b ≡ p.used ++ (l ++ 10 ∷ b) = simp append_assoc in
      ap lines moved ∙ p.cut (l ++ 10 ∷ b) ∙ ap (λ ls. p.answered ++ ls) (lines-line l b plain) ∙ sym (append_assoc p.answered (l ∷ []) (lines b)) in
      let cut_whole : (b : List ℕ) → whole_lines ((p.used ++ (l ++ 10 ∷ [])) ++ b) ≡ (p.answered ++ l ∷ []) ++ whole_lines b =
      λ b. let moved : (p.used ++ (l ++ 10 ∷ [])) ++ b ≡ p.used ++ (l ++ 10 ∷ b) = simp append_assoc in
      ap whole_lines moved ∙ p.cut_whole (l ++ 10 ∷ b) ∙ ap (λ ls. p.answered ++ ls) (whole-line l b plain) ∙ sym (append_assoc p.answered (l ∷ []) (whole_lines b)) in
      let reached : state_after start (p.answered ++ l ∷ []) ≡ s' = state-more start s s' p.answered l t p.reached is in
      let ran : (more : List (List ℕ)) → outcome_of_lines ((p.answered ++ l ∷ []) ++ more) ≡ preceded_by (w ++ t) (outcome_from (n + 1) s' more) =
      λ more. ap outcome_of_lines (append_assoc p.answered (l ∷ []) more) ∙ p.ran (l ∷ more)
      ∙ ap (preceded_by w) (outcome-line n s s' l t more count_within_max size is) ∙ preceded_by-preceded_by w t (outcome_from (n + 1) s' more) in
      record { used = p.used ++ (l ++ 10 ∷ []); answered = p.answered ++ l ∷ []; split = split; counted = counted; cut = cut; cut_whole = cut_whole; reached = reached; ran = ran }

  -- the outcome of the whole input, from the lines of the unread rest
  pub whole : (unread : List ℕ) (ls : List (List ℕ)) → Progress input unread n s w → lines unread ≡ ls → outcome input ≡ preceded_by w (outcome_from n s ls)
  whole unread ls p e = ap outcome p.split ∙ ap outcome_of_lines (p.cut unread ∙ ap (λ m. p.answered ++ m) e) ∙ p.ran ls

  pub begins_with : (unread : List ℕ) → Progress input unread n s w → BeginsWith (outcome input).text w
  begins_with unread p = ((outcome_from n s (lines unread)).text, ap (λ (o : Outcome). o.text) (whole unread (lines unread) p refl))

  pub memory : (unread : List ℕ) → Progress input unread n s w → (count : ℕ) × (count ≤ length (lines input)) × IsWholeText (outcome_of_lines (take count (lines input))) w
  memory unread p =
      let cut : lines input ≡ p.answered ++ lines unread = ap lines p.split ∙ p.cut unread in
      let lengths : length (lines input) ≡ length p.answered + length (lines unread) = ap length cut ∙ length-append p.answered (lines unread) in
      let front : take (length p.answered) (lines input) ≡ p.answered = ap (take (length p.answered)) cut ∙ take-append_seam p.answered (lines unread) in
      let text : outcome_of_lines p.answered ≡ record { text = w; fault = None } = ap outcome_of_lines (sym (append-nil p.answered)) ∙ p.ran [] ∙ preceded_by-done w n s in
      (length p.answered, (omega (arith, lengths)), ap outcome_of_lines front ∙ text)

  -- if one line is left
  pub last_state : (unread line : List ℕ) → Progress input unread n s w → lines unread ≡ line ∷ [] → (s' : ScriptState) (t : List ℕ) → answer s line ≡ Ok (s', t) → final input ≡ s'
  last_state unread line p e s' t is = ap final p.split ∙ ap (state_after start) (p.cut unread ∙ ap (λ m. p.answered ++ m) e) ∙ state-more start s s' p.answered line t p.reached is

-- ---- with the reader

-- before the first line
pub at_start : (input : List ℕ) (left : Option (List ℕ)) (bytes : List ℕ) (s : ScriptState) (w : List ℕ) → left ≡ Some input → bytes ≡ [] → s ≡ start → w ≡ []
    → InputProgress input left bytes 0 s w
at_start input left bytes s w known none new empty =
    let nothing : Progress input input 0 start [] =
    record { used = []; answered = []; split = refl; counted = refl; cut = λ b. refl; cut_whole = λ b. refl; reached = refl; ran = λ more. refl } in
    record { rest = input; known = known; progress = rw (none, new, empty) nothing }

-- more bytes came ahead
pub advance : (input : List ℕ) (n : ℕ) (s : ScriptState) (w : List ℕ) (before after : Option (List ℕ)) (bytes grown more : List ℕ)
    → InputProgress input before bytes n s w → grown ≡ bytes ++ more → Consumes before after more → InputProgress input after grown n s w
advance input n s w None after bytes grown more here g taken = cc (here.known)
advance input n s w (Some x) None bytes grown more here g taken = absurd taken
advance input n s w (Some x) (Some y) bytes grown more here g taken = grind (arith, append_assoc bytes more y)

at_end : (left : Option (List ℕ)) (rest : List ℕ) → left ≡ Some rest → IsAtEnd left → rest ≡ []
at_end None rest e h = cc
at_end (Some x) rest e h = cc

consumed : {input : List ℕ} (left : Option (List ℕ)) (rest taken : List ℕ) → left ≡ Some rest → input ≡ taken ++ rest → Consumes (Some input) left taken
consumed None rest taken e split = cc
consumed (Some x) rest taken e split = let same : x ≡ rest = cc in split ∙ ap (λ r. taken ++ r) (sym same)

module _ (input : List ℕ) (left : Option (List ℕ)) (bytes : List ℕ) (n : ℕ) (s : ScriptState) (w : List ℕ) where
  pub step_line : InputProgress input left bytes n s w → (s' : ScriptState) (t : List ℕ) → n ≢ MAX_LINES
      → line_len bytes < length bytes → line_len bytes ≤ MAX_LINE_BYTES → answer s (front bytes) ≡ Ok (s', t)
      → InputProgress input left (after_front bytes) (n + 1) s' (w ++ t)
  step_line here s' t count_within_max ended short is = grind (arith, step input n s w bytes here.rest s' t here.progress count_within_max ended short is)

  pub text_begins : InputProgress input left bytes n s w → BeginsWith (outcome input).text w
  text_begins here = begins_with input n s w (bytes ++ here.rest) here.progress

  pub at_memory : InputProgress input left bytes n s w → (count : ℕ) × (count ≤ length (lines input)) × IsWholeText (outcome_of_lines (take count (lines input))) w
  at_memory here = memory input n s w (bytes ++ here.rest) here.progress

  pub at_long : InputProgress input left bytes n s w → n ≢ MAX_LINES → MAX_LINE_BYTES < line_len bytes → outcome input ≡ record { text = w; fault = Some LineTooLong }
  at_long here count_within_max long =
      let b : Begins bytes here.rest = begins bytes here.rest (omega (arith, long, line_len-le bytes)) in
      whole input n s w (bytes ++ here.rest) (b.line ∷ b.more) here.progress b.is
      ∙ ap (preceded_by w) (outcome-long n s b.line b.more count_within_max (omega (arith, long, b.long))) ∙ preceded_by-stopped w LineTooLong

  pub at_too_many : InputProgress input left bytes n s w → n ≡ MAX_LINES → 0 < length bytes → outcome input ≡ record { text = w; fault = Some TooManyLines }
  at_too_many here many some = grind (arith, begins bytes here.rest some, whole, outcome-many, preceded_by-stopped w TooManyLines)

  pub at_fault_line : InputProgress input left bytes n s w → (f : RunFault) → n ≢ MAX_LINES → line_len bytes < length bytes → line_len bytes ≤ MAX_LINE_BYTES
      → answer s (front bytes) ≡ Err f → outcome input ≡ record { text = w; fault = Some f }
  at_fault_line here f count_within_max ended short is =
      let size : length (front bytes) ≤ MAX_LINE_BYTES = omega (arith, length-take (line_len bytes) bytes, line_len-le bytes) in
      let moved : bytes ++ here.rest ≡ front bytes ++ 10 ∷ (after_front bytes ++ here.rest) = ap (λ b. b ++ here.rest) (split-front bytes ended) ∙ simp append_assoc in
      whole input n s w (bytes ++ here.rest) (front bytes ∷ lines (after_front bytes ++ here.rest)) here.progress
      (ap lines moved ∙ lines-line (front bytes) (after_front bytes ++ here.rest) (plain-front bytes))
      ∙ ap (preceded_by w) (outcome-fault n s (front bytes) f (lines (after_front bytes ++ here.rest)) count_within_max size is) ∙ preceded_by-stopped w f

  -- at the end of the input
  pub all_read : InputProgress input left bytes n s w → IsAtEnd left → Consumes (Some input) left input
  all_read here end = consumed left here.rest input here.known (sym (append-nil input) ∙ ap (λ r. input ++ r) (sym (at_end left here.rest here.known end)))

  pub state_at_last : InputProgress input left bytes n s w → IsAtEnd left → line_len bytes ≡ length bytes → 0 < length bytes → (s' : ScriptState) (t : List ℕ) → answer s bytes ≡ Ok (s', t) → final input ≡ s'
  state_at_last here end plain some s' t is =
      let all : bytes ++ here.rest ≡ bytes = ap (λ r. bytes ++ r) (at_end left here.rest here.known end) ∙ append-nil bytes in
      last_state input n s w (bytes ++ here.rest) bytes here.progress (ap lines all ∙ lines-last bytes plain some) s' t is

  last_line : InputProgress input left bytes n s w → IsAtEnd left → line_len bytes ≡ length bytes → 0 < length bytes → outcome input ≡ preceded_by w (outcome_from n s (bytes ∷ []))
  last_line here end plain some =
      grind (arith, at_end left here.rest here.known end, append-nil bytes, whole, lines-last bytes plain some)

  pub at_last : InputProgress input left bytes n s w → IsAtEnd left → line_len bytes ≡ length bytes → 0 < length bytes → length bytes ≤ MAX_LINE_BYTES → n ≢ MAX_LINES
      → (s' : ScriptState) (t : List ℕ) → answer s bytes ≡ Ok (s', t) → outcome input ≡ record { text = w ++ t; fault = None }
  at_last here end plain some short count_within_max s' t is =
      last_line here end plain some ∙ ap (preceded_by w) (outcome-line n s s' bytes t [] count_within_max short is)
      ∙ preceded_by-preceded_by w t (outcome_from (n + 1) s' []) ∙ preceded_by-done (w ++ t) (n + 1) s'

  pub at_fault_last : InputProgress input left bytes n s w → IsAtEnd left → line_len bytes ≡ length bytes → 0 < length bytes → length bytes ≤ MAX_LINE_BYTES → n ≢ MAX_LINES
      → (f : RunFault) → answer s bytes ≡ Err f → outcome input ≡ record { text = w; fault = Some f }
  at_fault_last here end plain some short count_within_max f is =
      last_line here end plain some ∙ ap (preceded_by w) (outcome-fault n s bytes f [] count_within_max short is) ∙ preceded_by-stopped w f

  -- if a read failed
  pub at_read : InputProgress input left bytes n s w → line_len bytes ≡ length bytes → (taken : List ℕ) × Consumes (Some input) left taken × IsWholeText (outcome_of_lines (whole_lines taken)) w
  at_read here plain = grind (arith, append_assoc, whole-none bytes plain, append-nil, preceded_by-done w n s, consumed)
