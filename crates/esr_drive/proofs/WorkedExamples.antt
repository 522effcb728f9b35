-- A drive file with its text: one block, whose update is read by a query.
use Rattle.std.proofs.Common.{◌≡◌, ℕ, All, refl, sym, ◌∙◌, List, [], ◌∷◌, None, Bool, true, false, arith, codes, pos}
use Rattle.std.specs.Fmt.{digits}
use Rattle.std.proofs.lemmas.List.Elements.{All-push}
use Rattle.esr_base.specs.declared.numbers.ItemId.{ItemId}
use Rattle.esr_base.specs.declared.numbers.TxnId.{TxnId}
use Rattle.esr_history.specs.declared.event.Event.{Event}
use Rattle.esr_history.specs.declared.event.Event.TheVariants as event
use Rattle.esr_history.specs.declared.event.Reply.{Reply}
use Rattle.esr_history.specs.declared.event.Reply.TheVariants as reply
use Rattle.esr_history.specs.declared.event.Entry.{Entry}
use Rattle.esr_grammar.specs.Command.{Command, begin_update, begin_query, read, write, commit}
use Rattle.esr_session.specs.declared.receipt.Receipt.{Receipt}
use Rattle.esr_session.specs.Receipts.{is_blocked, entry_of}
use Rattle.esr_session.proofs.Good.{good_matches}
use Rattle.esr_plan.specs.Blocks.{Answered, IsRun, AreRuns, start, more}
use Rattle.esr_drive.specs.Drive.{IsDriveText}
use Rattle.esr_drive.specs.declared.form.DriveOutput.TheVariants as form

none : (P : Receipt → Type 0) → All P []
none P k d lt = absurd (omega (arith, lt))

not_true : {A : Type 0} (b : Bool) → b ≡ false → b ≡ true → A
not_true b off on = let e : false ≡ true = sym off ∙ on in cc

-- a call that got its last reply at once
one_run : (e : Event) (r : Receipt) → r.event ≡ e → is_blocked r.reply ≡ false → IsRun e r.reply (r ∷ [])
one_run e r same once = record {
  blocked = [];
  last = r;
  parts = refl;
  events = All-push (λ (s : Receipt). s.event ≡ e) [] r (none (λ (s : Receipt). s.event ≡ e)) same;
  were_blocked = none (λ (s : Receipt). is_blocked s.reply ≡ true);
  upper_bound = omega arith;
  patient = λ b. not_true (is_blocked r.reply) once b;
  reply_is = refl;
}

abbrev receipt : ℕ → Event → Reply → Receipt
receipt at e r = record { at = at; event = e; reply = r }

abbrev txn : ℕ → TxnId
txn n = record { 0 = n }

abbrev item : ℕ → ItemId
item n = record { 0 = n }

abbrev answered : Command → Reply → Answered
answered c r = record { command = c; reply = r }

abbrev u : List ℕ
u = codes "u"

abbrev q : List ℕ
q = codes "q"

abbrev a : List ℕ
a = codes "a"

abbrev r0 : Receipt
r0 = receipt 0 (event.BeginUpdate 0) (reply.Begun (txn 1))

abbrev r1 : Receipt
r1 = receipt 1 (event.Write (txn 1) (item 0) (pos 5)) reply.Wrote

abbrev r2 : Receipt
r2 = receipt 2 (event.Commit (txn 1)) reply.Committed

abbrev r3 : Receipt
r3 = receipt 3 (event.BeginQuery 0 false) (reply.Begun (txn 2))

abbrev r4 : Receipt
r4 = receipt 4 (event.Read (txn 2) (item 0)) (reply.Value (pos 5))

abbrev r5 : Receipt
r5 = receipt 5 (event.Commit (txn 2)) reply.Committed

abbrev answers1 : List Answered
answers1 = answered (begin_update u 0) r0.reply ∷ []

abbrev answers2 : List Answered
answers2 = answered (begin_update u 0) r0.reply ∷ answered (write u a (pos 5)) r1.reply ∷ []

abbrev answers3 : List Answered
answers3 = answered (begin_update u 0) r0.reply ∷ answered (write u a (pos 5)) r1.reply ∷ answered (commit u) r2.reply ∷ []

abbrev answers4 : List Answered
answers4 = answered (begin_update u 0) r0.reply ∷ answered (write u a (pos 5)) r1.reply ∷ answered (commit u) r2.reply ∷ answered (begin_query q 0) r3.reply ∷ []

abbrev answers5 : List Answered
answers5 = answered (begin_update u 0) r0.reply ∷ answered (write u a (pos 5)) r1.reply ∷ answered (commit u) r2.reply ∷ answered (begin_query q 0) r3.reply ∷ answered (read q a) r4.reply ∷ []

abbrev all : List Answered
all = answered (begin_update u 0) r0.reply ∷ answered (write u a (pos 5)) r1.reply ∷ answered (commit u) r2.reply ∷ answered (begin_query q 0) r3.reply ∷ answered (read q a) r4.reply ∷ answered (commit q) r5.reply ∷ []

abbrev receipts : List Receipt
receipts = r0 ∷ r1 ∷ r2 ∷ r3 ∷ r4 ∷ r5 ∷ []

abbrev names : List (List ℕ)
names = a ∷ []

runs1 : AreRuns names answers1 (r0 ∷ [])
runs1 = more [] [] (begin_update u 0) r0.event r0.reply (r0 ∷ []) start refl (one_run r0.event r0 refl refl)

runs2 : AreRuns names answers2 (r0 ∷ r1 ∷ [])
runs2 = more answers1 (r0 ∷ []) (write u a (pos 5)) r1.event r1.reply (r1 ∷ []) runs1 refl (one_run r1.event r1 refl refl)

runs3 : AreRuns names answers3 (r0 ∷ r1 ∷ r2 ∷ [])
runs3 = more answers2 (r0 ∷ r1 ∷ []) (commit u) r2.event r2.reply (r2 ∷ []) runs2 refl (one_run r2.event r2 refl refl)

runs4 : AreRuns names answers4 (r0 ∷ r1 ∷ r2 ∷ r3 ∷ [])
runs4 = more answers3 (r0 ∷ r1 ∷ r2 ∷ []) (begin_query q 0) r3.event r3.reply (r3 ∷ []) runs3 refl (one_run r3.event r3 refl refl)

runs5 : AreRuns names answers5 (r0 ∷ r1 ∷ r2 ∷ r3 ∷ r4 ∷ [])
runs5 = more answers4 (r0 ∷ r1 ∷ r2 ∷ r3 ∷ []) (read q a) r4.event r4.reply (r4 ∷ []) runs4 refl (one_run r4.event r4 refl refl)

runs6 : AreRuns names all receipts
runs6 = more answers5 (r0 ∷ r1 ∷ r2 ∷ r3 ∷ r4 ∷ []) (commit q) r5.event r5.reply (r5 ∷ []) runs5 refl (one_run r5.event r5 refl refl)

abbrev entries : List Entry
entries = entry_of r0 ∷ entry_of r1 ∷ entry_of r2 ∷ entry_of r3 ∷ entry_of r4 ∷ entry_of r5 ∷ []

drive_of_one_block : IsDriveText (form.Text 1)
    (codes "item a 0\nsession\nbegin u update 0\nwrite u a 5\ncommit u\nbegin q query 0\nread q a\ncommit q\n")
    (codes "item a 0\nsession 0\nbegun u 1\nwrote u a 5\ncommitted u\nbegun q 2\nq a 5\ncommitted q\naudit q distance 0 import 0 before u\ntotals import 0 export 0 entries 6\n")
unfolding digits
drive_of_one_block = record {
  plan = record {
    names = names;
    values = pos 0 ∷ [];
    weights = None ∷ [];
    blocks = (begin_update u 0 ∷ write u a (pos 5) ∷ commit u ∷ begin_query q 0 ∷ read q a ∷ commit q ∷ []) ∷ [];
  };
  planned = refl;
  is_text = record {
    history = record { opening = pos 0 ∷ []; weights = 1 ∷ []; entries = entries };
    blocks = all ∷ [];
    receipts = receipts ∷ [];
    legal = (refl, (refl, (refl, (refl, (refl, (refl, tt))))));
    opening = refl;
    weights = refl;
    commands = refl;
    runs = (runs6, tt);
    matching = good_matches entries (receipts ∷ []) (((refl, omega arith, refl), ((refl, omega arith, refl), ((refl, omega arith, refl), ((refl, omega arith, refl), ((refl, omega arith, refl), ((refl, omega arith, refl), tt)))))), tt) (omega arith);
    rendering = refl;
  };
}
