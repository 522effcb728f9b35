-- The members of a problem and of a certificate, put into an object one after the other.
use Rattle.std.proofs.Common.{◌≡◌, ℕ, List, [], ◌∷◌, Option, Some, None, map, refl, codes}
use Rattle.serde_json.specs.Data.{Data, Members, no_members, member, put}
use Rattle.esr_bundle.specs.Bundle.{number_data, list_member, number_member}
use Rattle.esr_bundle.specs.Members.{with_list, with_number}

problem_members : (before chains updates : Data) (must : List ℕ) → put (codes "updates") updates (with_list (codes "must") (map number_data must) (put (codes "chains") chains (put (codes "before") before no_members))) ≡ member (codes "before") before (member (codes "chains") chains (list_member (codes "must") must (member (codes "updates") updates no_members)))
problem_members before chains updates [] = refl
problem_members before chains updates (u ∷ us) = refl

pub problem_put : {m0 m1 m2 m3 m4 : Members} {b before c chains u updates : Data} {us must : List ℕ} → m0 ≡ no_members
    → m1 ≡ put (codes "before") b m0 → b ≡ before → m2 ≡ put (codes "chains") c m1 → c ≡ chains
    → m3 ≡ with_list (codes "must") (map number_data us) m2 → us ≡ must → m4 ≡ put (codes "updates") u m3 → u ≡ updates
    → m4 ≡ member (codes "before") before (member (codes "chains") chains (list_member (codes "must") must (member (codes "updates") updates no_members)))
problem_put none m1 b m2 c m3 us m4 u = rw (m4, m3, m2, m1, none, b, c, us, u) (problem_members _ _ _ _)

certificate_members : (count : Option ℕ) (back rows : Data) (must : List ℕ) (set worth : Data)
    → put (codes "worth") worth (put (codes "set") set (with_list (codes "must_flow") (map number_data must) (put (codes "chain_flow") rows (put (codes "back_flow") back (with_number (codes "augmentations") count no_members)))))
    ≡ number_member (codes "augmentations") count (member (codes "back_flow") back (member (codes "chain_flow") rows (list_member (codes "must_flow") must (member (codes "set") set (member (codes "worth") worth no_members)))))
certificate_members None back rows [] set worth = refl
certificate_members None back rows (u ∷ us) set worth = refl
certificate_members (Some n) back rows [] set worth = refl
certificate_members (Some n) back rows (u ∷ us) set worth = refl

pub certificate_put : {m0 m1 m2 m3 m4 m5 m6 : Members} (count : Option ℕ) {b back r rows s set w worth : Data} {us must : List ℕ} → m0 ≡ no_members
    → m1 ≡ with_number (codes "augmentations") count m0 → m2 ≡ put (codes "back_flow") b m1 → b ≡ back → m3 ≡ put (codes "chain_flow") r m2 → r ≡ rows
    → m4 ≡ with_list (codes "must_flow") (map number_data us) m3 → us ≡ must → m5 ≡ put (codes "set") s m4 → s ≡ set → m6 ≡ put (codes "worth") w m5 → w ≡ worth
    → m6 ≡ number_member (codes "augmentations") count (member (codes "back_flow") back (member (codes "chain_flow") rows (list_member (codes "must_flow") must (member (codes "set") set (member (codes "worth") worth no_members)))))
certificate_put count none m1 m2 b m3 r m4 us m5 s m6 w = rw (m6, m5, m4, m3, m2, m1, none, b, r, us, s, w) (certificate_members _ _ _ _ _ _)
