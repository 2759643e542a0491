-- A text is the text of at most one log for a device.
use Rattle.std.proofs.Common.{ℕ, zero, suc, ◌≡◌, ◌+◌, ◌*◌, List, length, slice_get, Some, refl, sym, ◌∙◌, ap, inl, inr, arith}
use Rattle.std.specs.List.{slice_range}
use Rattle.std.proofs.lemmas.Option.{slice_get_past, slice_get_cases}
use Rattle.base.proofs.Lists.{same_by_place}
use Rattle.logfmt.specs.declared.entry.Entry.{Entry}
use Rattle.logfmt.specs.Bounds.{data_of, place}
use Rattle.logfmt.specs.LogText.{StandsAt, AllStand}
use Rattle.logfmt.specs.Laws.{TextOfOneLog}
use Rattle.logfmt.proofs.FlagBits.{same_flags}

-- one entry stands at a place
same_entry : (bytes : List ℕ) (p : ℕ) (a b : Entry) → StandsAt bytes p a → StandsAt bytes p b → a ≡ b
same_entry bytes p a b at bt =
    let sector : a.sector ≡ b.sector = at.sector ∙ sym bt.sector in
    let count : a.count ≡ b.count = at.count ∙ sym bt.count in
    let flags : a.flags ≡ b.flags = same_flags a.flags b.flags (at.flags ∙ sym bt.flags) in
    let long : length a.text ≡ length b.text = at.text_length ∙ sym bt.text_length in
    let text : a.text ≡ b.text =
    at.text ∙ ap (λ n. slice_range bytes (512 * p + 32) (512 * p + 32 + n)) long ∙ sym bt.text in
    let beyond : data_of a ≡ data_of b = rw (count, flags) refl in
    let content : a.content ≡ b.content =
    at.content ∙ ap (λ n. slice_range bytes (512 * (p + 1)) (512 * (p + 1 + n))) beyond ∙ sym bt.content in
    λ i. record { sector = sector i; count = count i; flags = flags i; text = text i; content = content i }

-- two lists of entries that stand in one text, at an index where their places agree
same_at : (bytes : List ℕ) (xs ys : List Entry) (i : ℕ) → AllStand bytes xs → AllStand bytes ys → length xs ≡ length ys
    → place xs i ≡ place ys i → slice_get xs i ≡ slice_get ys i
same_at bytes xs ys i sa sb long here =
    elim (slice_get_cases xs i).1 [
      | inl a ↦ elim (slice_get_cases ys i).1 [
        | inl b ↦
            let stands : StandsAt bytes (place xs i) b.0 = rw here (sb i b.0 b.2) in
            a.2 ∙ ap (λ x. Some x) (same_entry bytes (place xs i) a.0 b.0 (sa i a.0 a.2) stands) ∙ sym b.2
        | inr past ↦ absurd (omega (arith, a.1, past.0, long))
      ]
      | inr past ↦ past.1 ∙ sym (slice_get_past ys i (omega (arith, past.0, long)))
    ]

same_places : (bytes : List ℕ) (xs ys : List Entry) (i : ℕ) → AllStand bytes xs → AllStand bytes ys → length xs ≡ length ys
    → place xs i ≡ place ys i
same_places bytes xs ys zero sa sb long = refl
same_places bytes xs ys (suc i) sa sb long =
    let before : place xs i ≡ place ys i = same_places bytes xs ys i sa sb long in
    let same : slice_get xs i ≡ slice_get ys i = same_at bytes xs ys i sa sb long before in
    rw (before, same) refl

pub text_of_one_log : TextOfOneLog
text_of_one_log bytes a b ta tb device held =
    let long : length a.entries ≡ length b.entries = sym ta.super.entries ∙ tb.super.entries in
    let entries : a.entries ≡ b.entries =
    same_by_place a.entries b.entries
    (λ i. same_at bytes a.entries b.entries i ta.stands tb.stands long (same_places bytes a.entries b.entries i ta.stands tb.stands long)) in
    λ i. record { sectors = device i; entries = entries i; initial = held i }
