-- The definitions at a board of three jobs and two seats: the first draws 0 and 1, the second 2 and 3, and the first 4.
use Rattle.std.proofs.Common.{◌≡◌, [], ◌∷◌, map, refl}
use Rattle.esr_board.specs.Claims.{hand, times, count_past, below, with_claim, with_one_less, one_pass, joined, passes_of, HasClaimed, first_hand}

both : map (λ n. times n (0 ∷ 1 ∷ 4 ∷ 2 ∷ 3 ∷ [])) (below 7) ≡ 1 ∷ 1 ∷ 1 ∷ 1 ∷ 1 ∷ 0 ∷ 0 ∷ []
both = refl

alone : map (λ n. times n (2 ∷ 3 ∷ [])) (below 5) ≡ 0 ∷ 0 ∷ 1 ∷ 1 ∷ 0 ∷ []
alone = refl

numbers : below 5 ≡ 0 ∷ 1 ∷ 2 ∷ 3 ∷ 4 ∷ []
numbers = refl

twice : times 2 (2 ∷ 0 ∷ 2 ∷ []) ≡ 2
twice = refl

past : count_past 3 (0 ∷ 1 ∷ 4 ∷ []) ≡ 1
past = refl

start : first_hand record { jobs = 3; seats = 2 } ≡ hand 3 2 []
start = refl

split_left : with_one_less (hand 3 2 []) ≡ hand 3 1 []
split_left = refl

split_right : one_pass (hand 3 2 []) ≡ hand 3 1 []
split_right = refl

claim_job : with_claim (hand 3 1 (0 ∷ [])) 1 ≡ hand 3 1 (0 ∷ 1 ∷ [])
claim_job = refl

claim_past : with_claim (hand 3 1 (0 ∷ 1 ∷ [])) 4 ≡ hand 3 0 (0 ∷ 1 ∷ 4 ∷ [])
claim_past = refl

together : joined (hand 3 0 (0 ∷ 1 ∷ 4 ∷ [])) (hand 3 0 (2 ∷ 3 ∷ [])) ≡ hand 3 0 (0 ∷ 1 ∷ 4 ∷ 2 ∷ 3 ∷ [])
together = refl

used_up : passes_of 3 (hand 3 0 (0 ∷ 1 ∷ 4 ∷ [])) ≡ 1
used_up = refl

has_claimed : HasClaimed 3 (0 ∷ []) (0 ∷ 1 ∷ 4 ∷ []) (1 ∷ [])
has_claimed = (1 ∷ 4 ∷ [], refl, refl)
