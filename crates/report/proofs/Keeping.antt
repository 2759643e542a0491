-- What is kept of lines after more of them.
use Rattle.std.proofs.Common.{ℕ, ◌≡◌, ◌≤◌, Bool, true, false, if◌then◌else◌, List, [], ◌∷◌, ◌++◌, length, take, Option, refl, sym, arith, append-nil, length-append}
use Rattle.std.specs.List.{flat_map}
use Rattle.std.specs.declared.snapshot.Snapshot.{Snapshot}
use Rattle.std.proofs.lemmas.Grind.{flat_map-append}
use Rattle.std.proofs.lemmas.List.{flat_map_more, map-append, take-append-le, length-map}
use Rattle.std.proofs.Math.Seq.{take-length}
use Rattle.report.specs.declared.lines.line.Line.{Line}
use Rattle.report.specs.Line.{FailingLine}
use Rattle.report.specs.LineValues.{line_value, said_by}
use Rattle.report.specs.Images.{leading}
use Rattle.report.specs.LineText.{line_text}
use Rattle.report.specs.Kept.{AreOf, IsPart, AreKept, leads_on}
use Rattle.report.proofs.Leads.{lead, stop}

pub said-append : (xs ys : List (Snapshot Line)) → said_by (xs ++ ys) ≡ said_by xs ++ said_by ys
said-append xs ys = map-append (λ (s : Snapshot Line). line_value s.value) xs ys

pub said-length : (xs : List (Snapshot Line)) → length (said_by xs) ≡ length xs
said-length xs = length-map xs (λ (s : Snapshot Line). line_value s.value)

leading_more : (ls more : List FailingLine) (own leading_text : List ℕ) (end a c : ℕ) (first last others final : Option ℕ)
    → leading_text ≡ flat_map line_text (leading ls) → AreOf ls first last a → AreOf more others final c
    → take end own ≡ flat_map line_text (leading more)
    → (b : Bool) → leads_on a last others ≡ b
    → leading_text ++ (if b then take end own else []) ≡ flat_map line_text (leading (ls ++ more))
leading_more ls more own leading_text end a c first last others final h of k so true e =
    let on = lead ls more first last others a of k.first_is e in
    rw (h, so, on.more, on.all) (sym (flat_map-append line_text ls (leading more)))
leading_more ls more own leading_text end a c first last others final h of k so false e =
    rw (append-nil leading_text, h, stop ls more first last others a of k.first_is e) refl

pub kept_both : (ls more : List FailingLine) (text own leading_text : List ℕ) (end a c : ℕ) (first last others final : Option ℕ)
    → AreKept ls text leading_text first last a → IsPart more own end others final c
    → (new_first new_last : Option ℕ) (count : ℕ) → AreOf (ls ++ more) new_first new_last count
    → AreKept (ls ++ more) (text ++ own) (leading_text ++ (if leads_on a last others then take end own else [])) new_first new_last count
kept_both ls more text own leading_text end a c first last others final h k new_first new_last count of = record {
  text_is = rw (h.text_is, k.text_is) (sym (flat_map-append line_text ls more));
  leading_is = leading_more ls more own leading_text end a c first last others final h.leading_is h.images k.images k.leading_is (leads_on a last others) refl;
  images = of;
}

text_more : (ls : List FailingLine) (l : FailingLine) (text printed : List ℕ) → text ≡ flat_map line_text ls → printed ≡ line_text l
    → text ++ printed ≡ flat_map line_text (ls ++ l ∷ [])
text_more ls l text printed h e = rw (h, e) (flat_map_more line_text [] ls l)

end_within : (text printed : List ℕ) (end : ℕ) (b : Bool) → end ≤ length text → (if b then length (text ++ printed) else end) ≤ length (text ++ printed)
end_within text printed end true le = omega arith
end_within text printed end false le = omega (arith, le, length-append text printed)

end_more : (ls : List FailingLine) (l : FailingLine) (text printed : List ℕ) (end a c : ℕ) (first last others final : Option ℕ)
    → IsPart ls text end first last a → printed ≡ line_text l → AreOf (l ∷ []) others final c
    → (b : Bool) → leads_on a last others ≡ b
    → take (if b then length (text ++ printed) else end) (text ++ printed) ≡ flat_map line_text (leading (ls ++ l ∷ []))
end_more ls l text printed end a c first last others final h e k true on =
    let so = lead ls (l ∷ []) first last others a h.images k.first_is on in
    rw (take-length (text ++ printed), so.more) (text_more ls l text printed h.text_is e)
end_more ls l text printed end a c first last others final h e k false on =
    rw (take-append-le end text printed h.within, h.leading_is, stop ls (l ∷ []) first last others a h.images k.first_is on) refl

pub part_more : (ls : List FailingLine) (l : FailingLine) (text printed : List ℕ) (end a c : ℕ) (first last others final : Option ℕ)
    → IsPart ls text end first last a → printed ≡ line_text l → AreOf (l ∷ []) others final c
    → (new_first new_last : Option ℕ) (count : ℕ) → AreOf (ls ++ l ∷ []) new_first new_last count
    → IsPart (ls ++ l ∷ []) (text ++ printed) (if leads_on a last others then length (text ++ printed) else end) new_first new_last count
part_more ls l text printed end a c first last others final h e k new_first new_last count of = record {
  text_is = text_more ls l text printed h.text_is e;
  within = end_within text printed end (leads_on a last others) h.within;
  leading_is = end_more ls l text printed end a c first last others final h e k (leads_on a last others) refl;
  images = of;
}
