-- Scripts with their texts.
use Rattle.std.specs.Prelude.{codes, refl, []}
use Rattle.std.specs.Fmt.{digits}
use Rattle.esr_script.specs.Run.{IsWholeText}
use Rattle.esr_script.specs.Text.{outcome}

empty_input : IsWholeText (outcome []) []
empty_input = refl

own_write_read_back : IsWholeText (outcome (codes "item a 100\nbegin u update 0\nwrite u a 105\nread u a\ncommit u\n"))
    (codes "item a 100\nbegun u 1\nwrote u a 105\nu a 105\ncommitted u\n")
unfolding digits
own_write_read_back = refl

upgrade_is_blocked_by_a_reader : IsWholeText
    (outcome (codes "item a 0\nbegin u update 0\nbegin v update 0\nread u a\nread v a\nwrite u a 1\ncommit v\nwrite u a 1\ncommit u\n"))
    (codes "item a 0\nbegun u 1\nbegun v 2\nu a 0\nv a 0\nblocked 9 lock v\ncommitted v\nwrote u a 1\ncommitted u\n")
unfolding digits
upgrade_is_blocked_by_a_reader = refl

-- faults of lines, names that are not bound, a note, and a last line with no line feed
lines_at_fault : IsWholeText
    (outcome (codes "item a 1\nitem a 2\n# note\nhello\nbegin u update 0\nitem b 2\nbegin u update 0\nread z a\nread u b\ncommit u\nread u a"))
    (codes "item a 1\nerror 3 name in use\nerror 1 not a command\nbegun u 1\nerror 2 items are closed\nerror 3 name in use\nrefused 1 no such transaction\nrefused 3 no such item\ncommitted u\nrefused 2 already ended\n")
unfolding digits
lines_at_fault = refl

report_concurrent_with_writer : IsWholeText
    (outcome (codes "item a 100\nbegin u update 50\nbegin q query 10\nwrite u a 107\nread q a\ncommit u\ncommit q\naudit q\ntotals\n"))
    (codes "item a 100\nbegun u 1\nbegun q 2\nwrote u a 107\nq a 107\ncommitted u\ncommitted q\naudit q distance 0 import 7 before u\ntotals import 7 export 7 entries 6\n")
unfolding digits
report_concurrent_with_writer = refl

export_limit_covers_all_queries : IsWholeText
    (outcome (codes "item a 0\nbegin q query 10\nbegin r query 5\nbegin u update 14\nbegin v update 15\nread q a\nread q a\nread r a\nwrite u a 5\nwrite v a 5\ntotals\n"))
    (codes "item a 0\nbegun q 1\nbegun r 2\nbegun u 3\nbegun v 4\nq a 0\nq a 0\nr a 0\nblocked 11 export u\nwrote v a 5\ntotals import 15 export 15 entries 9\n")
unfolding digits
export_limit_covers_all_queries = refl

two_updates_over_a_report : IsWholeText
    (outcome (codes "item a 0\nitem b 0\nbegin q query 100\nbegin u1 update 100\nbegin u2 update 100\nread q a\nwrite u1 a 10\naudit q\ncommit u1\nwrite u2 a 1\nwrite u2 b 8\ncommit u2\nread q b\ncommit q\naudit q\n"))
    (codes "item a 0\nitem b 0\nbegun q 1\nbegun u1 2\nbegun u2 3\nq a 0\nwrote u1 a 10\nerror 6 not a committed query\ncommitted u1\nwrote u2 a 1\nwrote u2 b 8\ncommitted u2\nq b 8\ncommitted q\naudit q distance 1 import 19 before u1,u2\n")
unfolding digits
two_updates_over_a_report = refl
