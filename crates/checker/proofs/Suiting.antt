-- What a checker may judge.
use Rattle.std.proofs.Common.{ℕ, zero, suc, ◌≡◌, true, false, List, [], ◌∷◌, Option, None, Some, is_some, slice_get, subst, sym}
use Rattle.std.proofs.lemmas.Option.{same_Some}
use Rattle.helpers.specs.declared.device.Context.{Context}
use Rattle.soundness.specs.Accepted.{IsImage}
use Rattle.checker.specs.Checker.{CheckerValue, Suits, IsFor, AreFor}

-- a checker that wasn't verified may judge everything
pub suits_all : (verified : Option ℕ) (device : List (List ℕ)) (context : Context) → is_some verified ≡ false → Suits verified device context
suits_all None device context free = tt
suits_all (Some sectors) device context free = absurd (let bad : true ≡ false = free in cc)

-- one that is for devices of a size may judge the images of such a device
pub suits_image : (verified : Option ℕ) (sectors : ℕ) (device : List (List ℕ)) (context : Context)
    → IsFor sectors verified → IsImage sectors device context → Suits verified device context
suits_image None sectors device context fits image = tt
suits_image (Some n) sectors device context fits image = subst (λ m. IsImage m device context) (sym fits) image

-- each of checkers that are for devices of a size is
pub for_each : (sectors : ℕ) (checkers : List CheckerValue) (n : ℕ) (c : CheckerValue)
    → AreFor sectors checkers → slice_get checkers n ≡ Some c → IsFor sectors c.verified
for_each sectors [] n c fit there = absurd (let bad : None ≡ Some c = there in cc)
for_each sectors (d ∷ checkers) zero c fit there = subst (λ (x : CheckerValue). IsFor sectors x.verified) (same_Some d c there) fit.0
for_each sectors (d ∷ checkers) (suc n) c fit there = for_each sectors checkers n c fit.1 there
