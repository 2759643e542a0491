-- The text of the images, put in its parts.
use Rattle.std.proofs.Common.{ℕ, ◌≡◌, ◌<◌, ◌≤◌, ◌+◌, ◌-◌, List, [], ◌++◌, length, map, slice_get, codes, Some, None, refl, sym, ◌∙◌, ap, subst, inl, append_assoc, length-append, arith}
use Rattle.std.proofs.lemmas.List.{append-nil}
use Rattle.std.proofs.lemmas.Grind.{flat_map-append}
use Rattle.std.specs.Fmt.{decimal}
use Rattle.std.specs.List.{flat_map, range_with_len}
use Rattle.base.proofs.Lists.{range_with_len-append}
use Rattle.images.specs.Keys.{ChangedValue, with_content}
use Rattle.export.specs.Export.{AskedValue, image_text, record_text, total_text, new_count, export_text}
use Rattle.export.specs.Kept.{PutsImages, new_text}
use Rattle.export.specs.Streaming.{StreamValue, Puts, PutsPart}
use Rattle.export.proofs.Streaming.{puts_more}
use Rattle.export.proofs.Walking.{text_more}

-- a line and its records
line_grouped : (head x d n records : List ℕ) → (head ++ (x ++ d ++ n)) ++ records ≡ head ++ (x ++ d ++ n ++ records)
line_grouped head x d n records = simp append_assoc

pub new_line : (head line : List ℕ) (count : ℕ) (sectors : List ChangedValue) → line ≡ head ++ (codes " new " ++ decimal count ++ codes "\n") → count ≡ length sectors
    → line ++ flat_map record_text sectors ≡ head ++ new_text sectors
new_line head line count sectors is same =
    ap (λ l. l ++ flat_map record_text sectors) is ∙ line_grouped head (codes " new ") (decimal count) (codes "\n") (flat_map record_text sectors)
    ∙ ap (λ n. head ++ (codes " new " ++ decimal n ++ codes "\n" ++ flat_map record_text sectors)) same

-- a line alone
pub no_records : (image : List (List ℕ)) (line numbers : List ℕ) → numbers ≡ [] → line ++ flat_map record_text (map (with_content image) numbers) ≡ line
no_records image line numbers none = ap (λ ns. line ++ flat_map record_text (map (with_content image) ns)) none ∙ append-nil line

pub none_inside : (count : ℕ) (numbers : List ℕ) → numbers ≡ [] → (k n : ℕ) → slice_get numbers k ≡ Some n → n < count
none_inside count numbers none k n at = absurd (let bad : None ≡ Some n = sym (ap (λ (ns : List ℕ). slice_get ns k) none) ∙ at in cc)

-- the images, one more
pub puts_image : (a : AskedValue) (n : ℕ) (s t u : StreamValue) (text : List ℕ) → Puts s t (flat_map (image_text a) (range_with_len 0 n)) → text ≡ image_text a n → Puts t u text
    → Puts s u (flat_map (image_text a) (range_with_len 0 (n + 1)))
puts_image a n s t u text p is q =
    subst (Puts s u) (text_more a n [] (flat_map (image_text a) (range_with_len 0 n)) (flat_map (image_text a) (range_with_len 0 n) ++ text) refl (ap (λ l. flat_map (image_text a) (range_with_len 0 n) ++ l) is))
    (puts_more s t u (flat_map (image_text a) (range_with_len 0 n)) text p q)

-- all of them
pub puts_images : (a : AskedValue) (n : ℕ) (s t : StreamValue) → n ≡ a.to - a.from → Puts s t (flat_map (image_text a) (range_with_len 0 n)) → Puts s t (flat_map (image_text a) (range_with_len 0 (a.to - a.from)))
puts_images a n s t all p = subst (λ m. Puts s t (flat_map (image_text a) (range_with_len 0 m))) all p

pub no_images : (a : AskedValue) (count : ℕ) → a.from + count ≡ a.to → count ≡ 0 → flat_map (image_text a) (range_with_len 0 (a.to - a.from)) ≡ []
no_images a count size none = let all : a.to - a.from ≡ 0 = omega (arith, size, none) in ap (λ n. flat_map (image_text a) (range_with_len 0 n)) all

-- with the last line
pub puts_text : (a : AskedValue) (count fresh : ℕ) (s t u : StreamValue) (line : List ℕ) → Puts s t (flat_map (image_text a) (range_with_len 0 (a.to - a.from))) → a.from + count ≡ a.to
    → fresh ≡ new_count a (a.to - a.from) → line ≡ total_text count fresh → Puts t u line → Puts s u (export_text a)
unfolding export_text
puts_text a count fresh s t u line p size new is q =
    let all : count ≡ a.to - a.from = omega (arith, size) in
    subst (λ l. Puts s u (flat_map (image_text a) (range_with_len 0 (a.to - a.from)) ++ l)) (is ∙ ap (λ n. total_text n fresh) all ∙ ap (total_text (a.to - a.from)) new)
    (puts_more s t u (flat_map (image_text a) (range_with_len 0 (a.to - a.from))) line p q)

-- the last line isn't empty
total_begins : (images new : ℕ) → 0 < length (total_text images new)
unfolding total_text
total_begins images new =
    omega (arith, length-append (codes "total ") (decimal images ++ codes " new " ++ decimal new ++ codes "\n"))

-- some of the images
some_images : (a : AskedValue) (n : ℕ) → n ≤ a.to - a.from
    → flat_map (image_text a) (range_with_len 0 (a.to - a.from)) ≡ flat_map (image_text a) (range_with_len 0 n) ++ flat_map (image_text a) (range_with_len (0 + n) (a.to - a.from - n))
some_images a n few =
    let all : a.to - a.from ≡ n + (a.to - a.from - n) = omega (arith, few) in
    ap (λ m. flat_map (image_text a) (range_with_len 0 m)) all ∙ ap (flat_map (image_text a)) (range_with_len-append 0 n (a.to - a.from - n))
    ∙ flat_map-append (image_text a) (range_with_len 0 n) (range_with_len (0 + n) (a.to - a.from - n))

pub images_part : (a : AskedValue) (s t : StreamValue) → PutsImages a s t → PutsPart s t (export_text a)
unfolding export_text
images_part a s t (n, few, p) =
    let head : List ℕ = flat_map (image_text a) (range_with_len 0 n) in
    let more : List ℕ = flat_map (image_text a) (range_with_len (0 + n) (a.to - a.from - n)) in
    let total : List ℕ = total_text (a.to - a.from) (new_count a (a.to - a.from)) in
    record {
      shown = head;
      rest = more ++ total;
      whole = sym (append_assoc head more total) ∙ ap (λ l. l ++ total) (sym (some_images a n few));
      puts = p;
      part = inl (omega (arith, length-append more total, total_begins (a.to - a.from) (new_count a (a.to - a.from))));
    }

-- none of the text
pub nothing_part : (a : AskedValue) (s : StreamValue) → Puts s s [] → PutsPart s s (export_text a)
nothing_part a s p = images_part a s s (0, omega arith, p)
