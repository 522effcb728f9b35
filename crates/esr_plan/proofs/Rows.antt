-- Drive files with their plans.
use Rattle.std.proofs.Common.{◌≡◌, refl, List, [], ◌∷◌, Result, Ok, Err, Some, None, codes, pos, negsuc}
use Rattle.std.specs.Fmt.{digits}
use Rattle.esr_grammar.specs.Command.{Command, begin_update, begin_query, read, write, commit}
use Rattle.esr_plan.specs.Plan.{Plan, plan_of, DriveFault, BadScript}

-- the plan of one item with these blocks
abbrev one_item : List (List Command) → Result Plan DriveFault
one_item blocks = Ok (record { names = codes "a" ∷ []; values = pos 0 ∷ []; weights = None ∷ []; blocks = blocks })

abbrev update : List Command
update = begin_update (codes "u") 0 ∷ write (codes "u") (codes "a") (pos 5) ∷ commit (codes "u") ∷ []

begin_before_a_session : plan_of (codes "item a 0\nbegin u update 0\n") ≡ Err (BadScript 2 1)
unfolding digits
begin_before_a_session = refl

item_in_a_block : plan_of (codes "session\nitem a 0\n") ≡ Err (BadScript 2 2)
unfolding digits
item_in_a_block = refl

name_in_two_blocks : plan_of (codes "session\nbegin u update 0\nsession\nbegin u update 0") ≡ Err (BadScript 4 3)
unfolding digits
name_in_two_blocks = refl

one_block : plan_of (codes "item a 0\n\nsession\nbegin u update 0\nwrite u a 5\n# note\ncommit u\n")
    ≡ one_item (update ∷ [])
unfolding digits
one_block = refl

too_many_sessions : plan_of (codes "session\nsession\nsession\nsession\nsession\nsession\nsession\nsession\nsession\nsession\nsession\nsession\nsession\nsession\nsession\nsession\nsession\nsession\nsession\nsession\nsession\nsession\nsession\nsession\nsession\nsession\nsession\nsession\nsession\nsession\nsession\nsession\nsession\nsession\nsession\nsession\nsession\nsession\nsession\nsession\nsession\nsession\nsession\nsession\nsession\nsession\nsession\nsession\nsession\nsession\nsession\nsession\nsession\nsession\nsession\nsession\nsession\nsession\nsession\nsession\nsession\nsession\nsession\nsession\nsession\n") ≡ Err (BadScript 65 7)
unfolding digits
too_many_sessions = refl

file_of_two_blocks : plan_of (codes "item a 0\nsession\nbegin u update 0\nwrite u a 5\ncommit u\nsession\nbegin q query 100\ncommit q\nread u a\n")
    ≡ one_item (update ∷ (begin_query (codes "q") 100 ∷ commit (codes "q") ∷ read (codes "u") (codes "a") ∷ []) ∷ [])
unfolding digits
file_of_two_blocks = refl

weights_of_items : plan_of (codes "item a 0 weight 3\nitem b 1\nitem c -2 weight 1000")
    ≡ Ok (record {
      names = codes "a" ∷ codes "b" ∷ codes "c" ∷ [];
      values = pos 0 ∷ pos 1 ∷ negsuc 1 ∷ [];
      weights = Some 3 ∷ None ∷ Some 1000 ∷ [];
      blocks = [];
    })
unfolding digits
weights_of_items = refl

weight_of_nothing : plan_of (codes "item a 0\nitem b 0 weight 0\n") ≡ Err (BadScript 2 8)
unfolding digits
weight_of_nothing = refl
