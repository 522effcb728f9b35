-- Bytes ahead in a buffer, from a start to an end.
use Rattle.std.proofs.Common.{◌≡◌, ℕ, ◌+◌, ◌-◌, ◌≤◌, ◌<◌, List, [], ◌∷◌, ◌++◌, append-nil, length, take, drop, sym, ◌∙◌, ap, arith, length-drop, length-take, length-append}
use borrow.Rule.Slice.PartMut.{put_mid, post_of, mid_of, same_len_mid}
use Rattle.std.proofs.Math.Seq.{take-append_seam, take-append-add, drop-drop, paste, take-paste}
use Rattle.std.proofs.lemmas.List.Edits.{length-paste}
use Rattle.std.proofs.lemmas.List.{drop-take, take-append-le, length-take-le}

-- fewer bytes from the start on
pub skipped : (items ahead : List ℕ) (s e n : ℕ) → s ≤ e → e ≤ length items → take (e - s) (drop s items) ≡ ahead → n ≤ length ahead
    → take (e - (s + n)) (drop (s + n) items) ≡ drop n ahead
skipped items ahead s e n order within is count_within_max =
    let size : length ahead ≡ e - s = ap length (sym is) ∙ length-take-le (e - s) (drop s items) (omega (arith, length-drop s items)) in
    let parts : e - s ≡ n + (e - (s + n)) = omega (arith, size) in
    ap (take (e - (s + n))) (sym (drop-drop n s items)) ∙ sym (drop-take n (e - (s + n)) (drop s items))
    ∙ ap (λ k. drop n (take k (drop s items))) (sym parts) ∙ ap (drop n) is

module _ (items moved ahead : List ℕ) (s e len : ℕ) (order : s ≤ e) (within : e ≤ length items) (is : take (e - s) (drop s items) ≡ ahead)
    (turned : moved ≡ paste items 0 (drop s items) (e - s)) (whole : len ≡ length items) where
  size : length ahead ≡ e - s
  size = ap length (sym is) ∙ length-take-le (e - s) (drop s items) (omega (arith, length-drop s items))

  long : length moved ≡ length items
  long = ap length turned ∙ length-paste items 0 (drop s items) (e - s) (omega (arith, within)) (omega (arith, length-drop s items, within))

  front : take (e - s) moved ≡ ahead
  front =
      let from_zero : e - s ≡ 0 + (e - s) = omega arith in
      ap (take (e - s)) turned ∙ ap (λ k. take k (paste items 0 (drop s items) (e - s))) from_zero
      ∙ take-paste items 0 (drop s items) (e - s) (omega arith) (omega (arith, length-drop s items, within)) ∙ is

  abbrev part : ℕ
  part = length moved - (e - s)

  module _ (read before : List ℕ) (fits : length read ≡ length (mid_of (e - s) part moved)) where
    abbrev after : List ℕ
    after = put_mid (e - s) part moved read

    -- the buffer contains the bytes put into it
    held : take len (after ++ drop (length after) before) ≡ after
    held = grind (arith, same_len_mid (e - s) part moved read fits, long, take-append_seam after (drop (length after) before))

    -- if nothing was read
    pub kept : take ((e - s) - 0) (drop 0 (take len (after ++ drop (length after) before))) ≡ ahead
    kept = grind (arith, size, post_of (e - s) part moved, held, front, take-append_seam)

    -- if `count` bytes were read, they follow the moved ones
    pub filled : (count : ℕ) → count ≤ length read → take (((e - s) + count) - 0) (drop 0 (take len (after ++ drop (length after) before))) ≡ ahead ++ take count read
    filled count received =
        let more : ((e - s) + count) - 0 ≡ length ahead + count = omega (arith, size) in
        let rest = post_of (e - s) part moved in
        ap (take (((e - s) + count) - 0)) held ∙ ap (λ n. take n after) more ∙ ap (λ l. take (length ahead + count) (l ++ (read ++ rest))) front
        ∙ take-append-add ahead (read ++ rest) count ∙ ap (λ l. ahead ++ l) (take-append-le count read rest received)

    -- a buffer with few bytes has capacity for more
    pub has_capacity : length ahead ≤ 200 → len ≡ 65536 → 0 < length read
    has_capacity count_within_max all = omega (arith, fits, size, long, whole, count_within_max, all, length-take part (drop (e - s) moved), length-drop (e - s) moved)

-- no bytes that came leave those that were there
pub same_bytes : (before after more : List ℕ) (n : ℕ) → length more ≡ n → n ≡ 0 → after ≡ before ++ more → after ≡ before
same_bytes before after [] n size none e = e ∙ append-nil before
same_bytes before after (x ∷ xs) n size none e = absurd (omega (arith, size, none))
