-- The values made of the findings of queries: the findings themselves, or their summaries.
use Rattle.std.proofs.Common.{◌≡◌, ℕ, ◌<◌, List, [], ◌∷◌, ◌++◌, map, refl, sym, ap, ◌∙◌, subst, All, Result, Ok, Err, IfOk}
use Rattle.std.specs.List.{AllZip}
use Rattle.std.proofs.lemmas.List.Elements.{All-nil, All-cons, All-weaker, same_from_all_zip}
use Rattle.esr_base.specs.declared.numbers.TxnId.{TxnId}
use Rattle.esr_history.specs.Machine.{DistanceFunction, Schedule}
use Rattle.esr_audit.specs.declared.finding.Summary.{Summary}
use Rattle.esr_board.specs.declared.worker.Share.{Share}
use Rattle.esr_audit.specs.declared.finding.Book.{Book}
use Rattle.esr_audit.specs.declared.finding.Summaries.{Summaries}
use Rattle.esr_audit.specs.declared.finding.Finding.{Finding}
use Rattle.esr_audit.specs.declared.finding.AuditError.{AuditError}
use Rattle.esr_audit.specs.Findings.{IsFinding, IsFindingOf, IsBook, AreSummaries, summary, seen_summary, committed_queries}
use Rattle.esr_audit.proofs.SummaryLaws.{all_summaries}
use Rattle.esr_history.specs.Serial.{committed_updates}
use Rattle.esr_board.specs.Shares.{IsKeptOf, IsFindingFor, KeepsFindings, AreKept, AreFound, query_of}

pub all_zip_push : {A B : Type 0} (R : A → B → Type 0) (xs : List A) (ys : List B) (x : A) (y : B) → AllZip R xs ys → R x y → AllZip R (xs ++ x ∷ []) (ys ++ y ∷ [])
all_zip_push R [] [] x y a r = (r, tt)
all_zip_push R [] (z ∷ ys) x y a r = absurd a
all_zip_push R (w ∷ xs) [] x y a r = absurd a
all_zip_push R (w ∷ xs) (z ∷ ys) x y a r = (a.0, all_zip_push R xs ys x y a.1 r)

-- values made from the finding of each query are made from the findings of these queries
pub keeps_findings : {T : Type 0} (keeps : Finding → T → Type 0) (d : DistanceFunction) (h : Schedule) (queries : List TxnId) (kept : List T) → AllZip (IsKeptOf keeps d h) queries kept → KeepsFindings keeps d h (map (λ (t : TxnId). t.0) queries) kept
keeps_findings keeps d h [] [] a = record { findings = []; queries = refl; found = All-nil (IsFinding d h); kept = tt }
keeps_findings keeps d h [] (x ∷ kept) a = absurd a
keeps_findings keeps d h (q ∷ queries) [] a = absurd a
keeps_findings keeps d h (q ∷ queries) (x ∷ kept) a =
    let rest = keeps_findings keeps d h queries kept a.1 in let f : Finding = a.0.0 in record {
      findings = f ∷ rest.findings;
      queries = λ i. (a.0.1 i).0 ∷ rest.queries i;
      found = All-cons (IsFinding d h) f rest.findings a.0.2 rest.found;
      kept = (a.0.3, rest.kept);
    }

-- if the values are the findings, they are a book's
pub book_kept : (d : DistanceFunction) (h : Schedule) (b : Book) → map (λ (t : TxnId). t.0) b.order.items ≡ committed_updates h → KeepsFindings (λ (f x : Finding). x ≡ f) d h (committed_queries h) b.findings.items → IsBook d h b
book_kept d h b order k =
    let same : b.findings.items ≡ k.findings = same_from_all_zip (λ (f x : Finding). x ≡ f) k.findings b.findings.items k.kept (λ f x e. e) in
    let queries : map (λ (f : Finding). f.query.0) b.findings.items ≡ committed_queries h = ap (map (λ (f : Finding). f.query.0)) same ∙ k.queries in
    let found : All (IsFinding d h) b.findings.items = subst (All (IsFinding d h)) (sym same) k.found in record {
      order = order;
      queries = queries;
      found = found;
      of_findings = refl;
      summaries = all_summaries d h b.findings.items (committed_queries h) found queries;
    }

-- if the values are summaries, they are those of the queries
pub summaries_kept : (d : DistanceFunction) (h : Schedule) (s : Summaries) → map (λ (t : TxnId). t.0) s.order.items ≡ committed_updates h → KeepsFindings (λ (f : Finding) (x : Summary). seen_summary x ≡ summary f) d h (committed_queries h) s.summaries.items → AreSummaries d h s
summaries_kept d h s order k =
    let same = mapped k.findings s.summaries.items k.kept in (
      k.findings,
      record {
        order = order;
        queries = k.queries;
        found = k.found;
        of_findings = same;
        summaries = same ∙ all_summaries d h k.findings (committed_queries h) k.found k.queries;
      },
    )
  where
    mapped : (fs : List Finding) (ss : List Summary) → AllZip (λ (f : Finding) (x : Summary). seen_summary x ≡ summary f) fs ss → map seen_summary ss ≡ map summary fs
    mapped [] [] a = refl
    mapped [] (x ∷ ss) a = absurd a
    mapped (f ∷ fs) [] a = absurd a
    mapped (f ∷ fs) (x ∷ ss) a = λ i. a.0 i ∷ mapped fs ss a.1 i

-- if a share has the findings, each is that of its job's query
pub found_kept : (d : DistanceFunction) (h : Schedule) (queries : List TxnId) (jobs : ℕ) (found : List (ℕ × Finding)) → AreKept (λ (f x : Finding). x ≡ f) d h queries jobs found → AreFound d h queries jobs found
found_kept d h queries jobs found a =
    All-weaker (λ (p : ℕ × Finding). (p.0 < jobs) × IsKeptOf (λ (f x : Finding). x ≡ f) d h (query_of queries p.0) p.1) (λ (p : ℕ × Finding). (p.0 < jobs) × IsFindingFor d h queries p.0 p.1)
    (λ p k. (k.0, (ap (λ (x : Finding). x.query) k.1.3 ∙ k.1.1, subst (IsFinding d h) (sym k.1.3) k.1.2))) found a

pub found_if_ok : (d : DistanceFunction) (h : Schedule) (queries : List TxnId) (jobs : ℕ) (r : Result (Share Finding) AuditError) → IfOk r (λ s. AreKept (λ (f x : Finding). x ≡ f) d h queries jobs s.found.items) → IfOk r (λ s. AreFound d h queries jobs s.found.items)
found_if_ok d h queries jobs (Ok s) kept = found_kept d h queries jobs s.found.items kept
found_if_ok d h queries jobs (Err e) kept = tt

-- the finding of a query, kept as it is
pub finding_kept : (d : DistanceFunction) (h : Schedule) (q : TxnId) (r : Result Finding AuditError) → IfOk r (λ f. f.query ≡ q) → IfOk r (IsFindingOf d h q.0)
    → IfOk r (IsKeptOf (λ (f x : Finding). x ≡ f) d h q)
finding_kept d h q (Ok f) query found = (f, query, subst (λ (t : TxnId). IsFindingOf d h t.0 f) (sym query) found, refl)
finding_kept d h q (Err e) query found = tt
