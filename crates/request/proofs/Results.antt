-- What facts say of a result.
use Rattle.std.proofs.Common.{Result, Ok, Err, IfOk, IfErr}

-- what two facts say of an Ok, and what one says of an Err
pub both_ok : {T E : Type 0} (r : Result T E) (A B C : T → Type 0) → IfOk r A → IfOk r B → ((x : T) → A x → B x → C x) → IfOk r C
both_ok (Ok x) A B C a b f = f x a b
both_ok (Err e) A B C a b f = tt

pub one_err : {T E : Type 0} (r : Result T E) (A C : E → Type 0) → IfErr r A → ((x : E) → A x → C x) → IfErr r C
one_err (Ok x) A C a f = tt
one_err (Err e) A C a f = f e a
