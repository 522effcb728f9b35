-- From the parts of a drive to its text.
use Rattle.std.proofs.Common.{◌≡◌, ℕ, zero, suc, All, arith, ◌+◌, ◌⊎◌, length, sum_by, refl, inl, inr, List, [], ◌∷◌, ◌++◌, map, Option, Some, None, Result, Ok, Err, IfOk, Vec, Global, ap, ap₂, sym, subst, ◌∙◌, append_assoc}
use mathlib.Core.List.{map-map}
use Rattle.std.specs.declared.alloc.AllocError.{AllocError}
use Rattle.std.proofs.lemmas.List.{length-map}
use Rattle.std.proofs.lemmas.List.Sums.{sum_by-cons}
use Rattle.esr_history.specs.declared.event.Reply.{Reply}
use Rattle.esr_history.specs.Machine.{Schedule}
use Rattle.esr_grammar.specs.Lines.{lines}
use Rattle.esr_plan.specs.declared.fault.DriveFault.{DriveFault}
use Rattle.esr_plan.specs.declared.fault.DriveFault.TheVariants as fault
use Rattle.esr_plan.specs.declared.drive_plan.DrivePlan.{DrivePlan}
use Rattle.esr_plan.specs.declared.call.Call.{Call}
use Rattle.esr_plan.specs.Calls.{command_of, AreResolved, all_answers}
use Rattle.esr_plan.specs.Drafts.{commands_in}
use Rattle.esr_plan.specs.Plan.{Plan, plan_of, plan_from, line_limit_fault, with_line, nothing, weights_of}
use Rattle.esr_plan.specs.DrivePlans.{plan_in, IsSound}
use Rattle.esr_plan.proofs.Cuts.{IsCut, IsNoneOrCut, all_cut}
use Rattle.esr_drive.specs.Driven.{IsDriven}
use Rattle.esr_drive.specs.Drive.{IsDriveText, IsRenderingOf}
use Rattle.esr_drive.specs.declared.form.DriveOutput.{DriveOutput}
use Rattle.esr_drive.specs.declared.form.DriveOutput.TheVariants as form
use Rattle.esr_dump.specs.RoundTrip.{IsDump}
use Rattle.esr_plan.specs.Blocks.{Answered}
use Rattle.esr_plan.specs.Text.{names_of, text_of}
use Rattle.esr_drive.specs.Faults.{IsTextFault, IsEngineFault}

all_items : (P : List Call → Type 0) (bs : List (Vec Call Global)) → All (λ b. P b.items) bs → All P (map (λ b. b.items) bs)
all_items P [] all i x lt = absurd (omega (arith, lt))
all_items P (b ∷ bs) all zero x lt = all 0 b (omega arith)
all_items P (b ∷ bs) all (suc i) x lt = all_items P bs (λ j y below. all (suc j) y (omega (arith, below))) i x (omega (arith, lt))

-- a text in the requested form
pub text_written : (what : DriveOutput) (workers : ℕ) (p : Plan) (h : Schedule) (blocks : List (List Answered)) (r : Result (List ℕ) AllocError) → what ≡ form.Text workers
    → IfOk r (λ text. text ≡ text_of p h blocks) → IfOk r (IsRenderingOf what p h blocks)
text_written what workers p h blocks r is reported = subst (λ (w : DriveOutput). IfOk r (IsRenderingOf w p h blocks)) (sym is) reported

pub history_written : (what : DriveOutput) (p : Plan) (h : Schedule) (blocks : List (List Answered)) (r : Result (List ℕ) AllocError) → what ≡ form.Script
    → IfOk r (IsDump p.names (names_of h blocks) h) → IfOk r (IsRenderingOf what p h blocks)
history_written what p h blocks r is reported = subst (λ (w : DriveOutput). IfOk r (IsRenderingOf w p h blocks)) (sym is) reported

-- the text of the drive is one of the file
pub drive_text : (what : DriveOutput) (bytes : List ℕ) (s : DrivePlan) (h : Schedule) (replies : List (List Reply)) (out : List ℕ)
    → plan_of bytes ≡ Ok (plan_in s) → IsSound s → IsDriven s.values.items (weights_of s.weights.items) (map (λ b. b.items) s.blocks.items) h replies
    → IsRenderingOf what (plan_in s) h (all_answers (map (λ b. b.items) s.blocks.items) replies) out → IsDriveText what bytes out
drive_text what bytes s h replies out planned sound d rendering = record {
  plan = plan_in s;
  planned = planned;
  is_text = record {
    history = h;
    blocks = all_answers (map (λ b. b.items) s.blocks.items) replies;
    receipts = d.receipts;
    legal = d.legal;
    opening = d.opening_is;
    weights = d.weights_are;
    commands = d.commands ∙ map-map (map command_of) (λ (b : Vec Call Global). b.items) s.blocks.items;
    runs = d.runs s.names (all_items (AreResolved s.names) s.blocks.items sound.resolved);
    matching = d.matching;
    rendering = rendering;
  };
}

-- ---- which faults a plan has

abbrev IsPlanFault : DriveFault → Type 0
IsPlanFault fault.LineTooLong = Unit {0}
IsPlanFault fault.TooManyLines = Unit {0}
IsPlanFault (fault.BadScript line error) = Unit {0}
IsPlanFault _ = ⊥

abbrev IsFine : {X : Type 0} → Result X DriveFault → Type 0
IsFine (Ok p) = Unit {0}
IsFine (Err e) = IsPlanFault e

cut_is_plan : (e : DriveFault) → IsCut e → IsPlanFault e
cut_is_plan fault.LineTooLong c = tt
cut_is_plan fault.TooManyLines c = tt
cut_is_plan _ c = absurd c

from_fine : (number : ℕ) (p : Plan) (ls : List (List ℕ)) → IsFine (plan_from number p ls)
from_fine number p [] = tt
from_fine number p (l ∷ ls) = at (with_line p l) (λ next. from_fine (number + 1) next ls)
  where
    at : (r : Result Plan ℕ) → ((next : Plan) → IsFine (plan_from (number + 1) next ls)) → IsFine (elim r [ Ok next ↦ plan_from (number + 1) next ls | Err error ↦ Err (fault.BadScript number error) ])
    at (Ok next) more = more next
    at (Err error) more = tt

plan_fine : (bytes : List ℕ) → IsFine (plan_of bytes)
plan_fine bytes = at (line_limit_fault 0 (lines bytes)) (all_cut 0 (lines bytes))
  where
    at : (o : Option DriveFault) → IsNoneOrCut o → IsFine (elim o [ Some e ↦ Err e | None ↦ plan_from 1 nothing (lines bytes) ])
    at None p = from_fine 1 nothing (lines bytes)
    at (Some e) p = cut_is_plan e p

fault_is : (bytes : List ℕ) (e : DriveFault) → IsPlanFault e → plan_of bytes ≡ Err e → IsTextFault bytes e
fault_is bytes fault.Read p is = p
fault_is bytes fault.Write p is = p
fault_is bytes fault.NoMemory p is = tt
fault_is bytes fault.HistoryFull p is = absurd p
fault_is bytes fault.Close p is = absurd p
fault_is bytes _ p is = is

pub text_fault : (bytes : List ℕ) (e : DriveFault) → (e ≡ fault.NoMemory) ⊎ (plan_of bytes ≡ Err e) → IsTextFault bytes e
text_fault bytes e (inl is) = subst (λ (f : DriveFault). IsTextFault bytes f) (sym is) tt
text_fault bytes e (inr is) = fault_is bytes e (subst (λ (r : Result Plan DriveFault). IsFine r) is (plan_fine bytes)) is

-- as many lines as commands
same_lines : (bs : List (Vec Call Global)) → sum_by length (map (λ b. b.items) bs) ≡ sum_by length (map (λ b. commands_in b.items) bs)
same_lines [] = refl
same_lines (b ∷ bs) =
    omega (arith, sum_by-cons length b.items (map (λ b. b.items) bs), sum_by-cons length (commands_in b.items) (map (λ b. commands_in b.items) bs), length-map b.items command_of, same_lines bs)

-- a fault of the engine, if the file has a plan
pub engine_fault : (bytes : List ℕ) (s : DrivePlan) (e : DriveFault) → plan_of bytes ≡ Ok (plan_in s) → IsEngineFault (map (λ b. b.items) s.blocks.items) e → IsTextFault bytes e
engine_fault bytes s fault.NoMemory planned is = tt
engine_fault bytes s fault.HistoryFull planned is = (plan_in s, planned, omega (arith, same_lines s.blocks.items, is))
engine_fault bytes s fault.Close planned is = (plan_in s, planned)
engine_fault bytes s _ planned is = absurd is

-- the start, the blocks, and the end, which has two pieces
pub three_parts : (text0 text1 text2 text3 end0 end1 end2 start a b c d : List ℕ) → text0 ≡ [] → start ≡ a → text1 ≡ text0 ++ start → text2 ≡ text1 ++ b
    → end0 ≡ [] → end1 ≡ end0 ++ c → end2 ≡ end1 ++ d → text3 ≡ text2 ++ end2 → text3 ≡ a ++ b ++ c ++ d
three_parts text0 text1 text2 text3 end0 end1 end2 start a b c d t0 s t1 t2 e0 e1 e2 t3 =
    let last : end2 ≡ c ++ d = e2 ∙ ap (λ l. l ++ d) (e1 ∙ ap (λ l. l ++ c) e0) in
    let first : text2 ≡ a ++ b = t2 ∙ ap (λ l. l ++ b) (t1 ∙ ap₂ (λ x y. x ++ y) t0 s) in
    t3 ∙ (ap₂ (λ x y. x ++ y) first last ∙ sym (append_assoc (a ++ b) c d))
