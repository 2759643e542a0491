-- The least device, entry by entry.
use Rattle.std.proofs.Common.{ℕ, ◌≡◌, ◌+◌, ◌<◌, ◌≤◌, ◌⊎◌, inl, inr, List, length, get_or, slice_get, Some, refl, sym, ◌∙◌, ap, subst, arith}
use Rattle.std.proofs.lemmas.Bool.{cases_lt}
use Rattle.std.proofs.lemmas.Option.{slice_get_within, slice_get_read}
use Rattle.base.specs.Sizes.{most_sectors}
use Rattle.logfmt.specs.declared.entry.Entry.{Entry}
use Rattle.logfmt.specs.Bounds.{LogValue, IsLog}
use Rattle.notes.specs.Device.{end_of, LieOn, IsLeastDevice}

-- the least of the first entries
pub record IsLeastOfFirst (es : List Entry) (n : ℕ) (found : ℕ) : Type 0 where
  pub some : 1 ≤ found
  pub lie : (i : ℕ) (e : Entry) → i < n → slice_get es i ≡ Some e → end_of e ≤ found
  pub least : (m : ℕ) → 1 ≤ m → LieOn es m → found ≤ m

-- each entry of a log lies on the largest device
pub fits : (log : LogValue) (items : List Entry) (n : ℕ) (e : Entry) → IsLog log → items ≡ log.entries → n < length items → e ≡ get_or items n e
    → 0 < e.count → e.sector + e.count ≤ most_sectors
fits log items n e bounds same lt here some =
    let there : slice_get log.entries n ≡ Some e = ap (λ (xs : List Entry). slice_get xs n) (sym same) ∙ slice_get_read items (length items) n e refl lt here in
    omega (arith, (bounds.entries n e there).device some, bounds.device)

pub one_more : (es : List Entry) (n : ℕ) (e : Entry) (least more : ℕ) → slice_get es n ≡ Some e → least ≤ more → end_of e ≤ more
    → (more ≡ least) ⊎ (more ≡ end_of e) → IsLeastOfFirst es n least → IsLeastOfFirst es (n + 1) more
one_more es n e least more here above holds either h = record {
  some = omega (arith, above, h.some);
  lie = λ i f lt there.
      elim (cases_lt i n) [
        | inl before ↦ omega (arith, above, h.lie i f before there)
        | inr past ↦
            let same : i ≡ n = omega (arith, lt, past) in
            let one : Some f ≡ Some e = sym there ∙ ap (slice_get es) same ∙ here in
            let entry : f ≡ e = cc in
            subst (λ x. end_of x ≤ more) (sym entry) holds
      ];
  least = λ m some lie.
      elim either [
        | inl same ↦ omega (arith, same, h.least m some lie)
        | inr same ↦ omega (arith, same, lie n e here)
      ];
}

pub next : (es items : List Entry) (n : ℕ) (e : Entry) (end least more : ℕ) → items ≡ es → n < length items → e ≡ get_or items n e → end ≡ end_of e
    → least ≤ more → end ≤ more → (more ≡ least) ⊎ (more ≡ end) → IsLeastOfFirst es n least → IsLeastOfFirst es (n + 1) more
next es items n e end least more same lt here is above holds either h =
    let there : slice_get es n ≡ Some e = ap (λ (xs : List Entry). slice_get xs n) (sym same) ∙ slice_get_read items (length items) n e refl lt here in
    one_more es n e least more there above (subst (λ k. k ≤ more) is holds) (subst (λ k. (more ≡ least) ⊎ (more ≡ k)) is either) h

pub whole : (es items : List Entry) (n least : ℕ) → items ≡ es → length items ≤ n → IsLeastOfFirst es n least → IsLeastDevice es least
whole es items n least same past h = record {
  some = h.some;
  lie = λ i e there. h.lie i e (omega (arith, past, ap (length {A = Entry}) same, slice_get_within es i e there)) there;
  least = h.least;
}
