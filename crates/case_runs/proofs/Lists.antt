-- A list of which something is so of each element, with one more.
use Rattle.std.proofs.Common.{◌≡◌, List, [], ◌∷◌, ◌++◌, All, sym, subst}
use Rattle.std.proofs.lemmas.List.Elements.{All-push}

pub all_more : {A : Type 0} (P : A → Type 0) (xs new : List A) (x : A) → All P xs → P x → new ≡ xs ++ x ∷ [] → All P new
all_more P xs new x all own put = subst (All P) (sym put) (All-push P xs x all own)
