-- Bytes are a raw log of one list of entries.
use Rattle.std.proofs.Common.{ℕ, zero, suc, ◌≡◌, ◌+◌, List, length, slice_get, Some, refl, sym, subst, ◌∙◌, ap, inl, inr, arith}
use Rattle.std.specs.List.{slice_range}
use Rattle.std.proofs.lemmas.Option.{slice_get_past, slice_get_cases}
use Rattle.base.proofs.Lists.{same_by_place}
use Rattle.logfmt.specs.declared.entry.Entry.{Entry}
use Rattle.logfmt.specs.Bounds.{data_of, place}
use Rattle.logfmt.proofs.FlagBits.{same_flags}
use Rattle.raw_log.specs.Raw.{StandsRaw, AllStandRaw, RawText, bytes_in}
use Rattle.raw_log.specs.Laws.{RawOfOneLog}

-- one entry stands at a byte
same_entry : (k : ℕ) (bytes : List ℕ) (s : ℕ) (a b : Entry) → StandsRaw k bytes s a → StandsRaw k bytes s b → a ≡ b
same_entry k bytes s a b at bt =
    let sector : a.sector ≡ b.sector = at.sector ∙ sym bt.sector in
    let count : a.count ≡ b.count = at.count ∙ sym bt.count in
    let flags : a.flags ≡ b.flags = same_flags a.flags b.flags (at.flags ∙ sym bt.flags) in
    let long : length a.text ≡ length b.text = at.text_length ∙ sym bt.text_length in
    let text : a.text ≡ b.text = at.text ∙ ap (λ n. slice_range bytes (s + 32) (s + 32 + n)) long ∙ sym bt.text in
    let beyond : data_of a ≡ data_of b = rw (count, flags) refl in
    let content : a.content ≡ b.content =
    at.content ∙ ap (λ n. slice_range bytes (s + bytes_in k 1) (s + bytes_in k (1 + n))) beyond ∙ sym bt.content in
    λ i. record { sector = sector i; count = count i; flags = flags i; text = text i; content = content i }

-- two lists of entries that stand in the same bytes, at an index where their places agree
same_at : (k : ℕ) (bytes : List ℕ) (xs ys : List Entry) (i : ℕ) → AllStandRaw k bytes xs → AllStandRaw k bytes ys → length xs ≡ length ys
    → place xs i ≡ place ys i → slice_get xs i ≡ slice_get ys i
same_at k bytes xs ys i sa sb long here =
    elim (slice_get_cases xs i).1 [
      | inl a ↦ elim (slice_get_cases ys i).1 [
        | inl b ↦
            let stands : StandsRaw k bytes (bytes_in k (place xs i)) b.0 = rw here (sb i b.0 b.2) in
            a.2 ∙ ap (λ x. Some x) (same_entry k bytes (bytes_in k (place xs i)) a.0 b.0 (sa i a.0 a.2) stands) ∙ sym b.2
        | inr past ↦ absurd (omega (arith, a.1, past.0, long))
      ]
      | inr past ↦ past.1 ∙ sym (slice_get_past ys i (omega (arith, past.0, long)))
    ]

same_places : (k : ℕ) (bytes : List ℕ) (xs ys : List Entry) (i : ℕ) → AllStandRaw k bytes xs → AllStandRaw k bytes ys → length xs ≡ length ys
    → place xs i ≡ place ys i
same_places k bytes xs ys zero sa sb long = refl
same_places k bytes xs ys (suc i) sa sb long =
    let before : place xs i ≡ place ys i = same_places k bytes xs ys i sa sb long in
    let same : slice_get xs i ≡ slice_get ys i = same_at k bytes xs ys i sa sb long before in
    rw (before, same) refl

same_entries : (k : ℕ) (bytes : List ℕ) (xs ys : List Entry) → RawText k bytes xs → RawText k bytes ys → xs ≡ ys
same_entries k bytes xs ys a b =
    let long : length xs ≡ length ys = sym a.super.entries ∙ b.super.entries in
    same_by_place xs ys (λ i. same_at k bytes xs ys i a.stands b.stands long (same_places k bytes xs ys i a.stands b.stands long))

pub raw_of_one_log : RawOfOneLog
raw_of_one_log bytes k l es fs a b =
    let sizes = sym a.super.sector_size ∙ b.super.sector_size in
    let same : k ≡ l = omega (arith, sizes) in
    let back : RawText k bytes fs = subst (λ (n : ℕ). RawText n bytes fs) (sym same) b in
    (same, same_entries k bytes es fs a back)
