-- The text of a part is a text.
use Rattle.std.proofs.Common.{ℕ, ◌≡◌, ◌-◌, Bool, true, false, List, ◌++◌, codes, Option, Some, None, refl, sym, subst}
use Rattle.std.specs.Fmt.{decimal}
use Rattle.std.specs.List.{flat_map, list_all}
use Rattle.std.specs.Str.{IsUtf8}
use Rattle.std.proofs.lemmas.Str.{IsUtf8-append, IsUtf8-from_ascii}
use Rattle.report.specs.LineText.{line_text}
use Rattle.losses.proofs.Plain.{both, number, is_plain, digit_plain, ascii, lines_are_text}
use Rattle.report.specs.Report.{image_text}
use Rattle.report.specs.declared.span.Span.{Span}
use Rattle.join.specs.declared.tally.Tally.{Tally}
use Rattle.report.specs.Part.{span_text}
use Rattle.join.specs.Text.{PartValue, IsPart, part_text}
use Rattle.join.specs.Reading.{last_text, NoPartText}
use Rattle.join.proofs.Parts.{pieces, last_of, tally_of}

plain_number : (n : ℕ) → list_all is_plain (decimal n) ≡ true
plain_number n = number is_plain n digit_plain

plain_image : (image : Option ℕ) → list_all is_plain (image_text image) ≡ true
plain_image None = refl
plain_image (Some image) = plain_number image

plain_span : (s : Span) → list_all is_plain (span_text s) ≡ true
unfolding span_text
plain_span s =
    both is_plain (codes "crash part 1\npart " ++ decimal s.from ++ codes ".." ++ decimal s.to ++ codes " of " ++ decimal s.images ++ codes " inputs " ++ decimal s.inputs) (codes "\n")
    (both is_plain (codes "crash part 1\npart " ++ decimal s.from ++ codes ".." ++ decimal s.to ++ codes " of " ++ decimal s.images ++ codes " inputs ") (decimal s.inputs)
    (both is_plain (codes "crash part 1\npart " ++ decimal s.from ++ codes ".." ++ decimal s.to ++ codes " of " ++ decimal s.images) (codes " inputs ")
    (both is_plain (codes "crash part 1\npart " ++ decimal s.from ++ codes ".." ++ decimal s.to ++ codes " of ") (decimal s.images)
    (both is_plain (codes "crash part 1\npart " ++ decimal s.from ++ codes ".." ++ decimal s.to) (codes " of ")
    (both is_plain (codes "crash part 1\npart " ++ decimal s.from ++ codes "..") (decimal s.to)
    (both is_plain (codes "crash part 1\npart " ++ decimal s.from) (codes "..") (both is_plain (codes "crash part 1\npart ") (decimal s.from) refl (plain_number s.from)) refl)
    (plain_number s.to)) refl)
    (plain_number s.images)) refl)
    (plain_number s.inputs))
    refl

plain_last : (first : Bool) (images : ℕ) (t : Tally) → list_all is_plain (last_text first images t) ≡ true
unfolding last_text
plain_last false images t =
    both is_plain (codes "images " ++ decimal images ++ codes " failing " ++ decimal t.images ++ codes " lines " ++ decimal t.lines) (codes "\n")
    (both is_plain (codes "images " ++ decimal images ++ codes " failing " ++ decimal t.images ++ codes " lines ") (decimal t.lines)
    (both is_plain (codes "images " ++ decimal images ++ codes " failing " ++ decimal t.images) (codes " lines ")
    (both is_plain (codes "images " ++ decimal images ++ codes " failing ") (decimal t.images)
    (both is_plain (codes "images " ++ decimal images) (codes " failing ") (both is_plain (codes "images ") (decimal images) refl (plain_number images)) refl)
    (plain_number t.images)) refl)
    (plain_number t.lines))
    refl
plain_last true images t =
    both is_plain (codes "images " ++ decimal images ++ codes " first " ++ image_text t.first) (codes "\n")
    (both is_plain (codes "images " ++ decimal images ++ codes " first ") (image_text t.first)
    (both is_plain (codes "images " ++ decimal images) (codes " first ") (both is_plain (codes "images ") (decimal images) refl (plain_number images)) refl)
    (plain_image t.first))
    refl

text_of_plain : (bs : List ℕ) → list_all is_plain bs ≡ true → IsUtf8 bs
text_of_plain bs all = IsUtf8-from_ascii bs (ascii bs all)

part_is_text : (p : PartValue) → IsPart p → IsUtf8 (part_text p)
part_is_text p is =
    let lines = lines_are_text p.lines in
    let last = text_of_plain (last_of p) (plain_last p.first (p.span.to - p.span.from) (tally_of p)) in
    let beyond = IsUtf8-append p.head (flat_map line_text p.lines ++ last_of p) is.head.text (IsUtf8-append (flat_map line_text p.lines) (last_of p) lines last) in
    let whole = IsUtf8-append (span_text p.span) (p.head ++ (flat_map line_text p.lines ++ last_of p)) (text_of_plain (span_text p.span) (plain_span p.span)) beyond in
    subst (λ (bs : List ℕ). IsUtf8 bs) (sym (pieces p is)) whole

-- what is no text is the text of no part
pub no_text_no_part : (bytes : List ℕ) → (IsUtf8 bytes → ⊥) → NoPartText bytes
no_text_no_part bytes other = record { none = λ p is e. other (subst (λ (bs : List ℕ). IsUtf8 bs) (sym e) (part_is_text p is)) }
