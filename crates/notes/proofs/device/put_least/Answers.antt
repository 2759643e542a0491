use Rattle.std.proofs.Common.{Result, Ok, Err, OnOk}
use Rattle.notes.proofs.device.put_least.Goals as goal

-- what a fact of an Ok says
on_ok : {T E : Type 0} (r : Result T E) (A B : Type 0) → OnOk r A → (A → B) → OnOk r B
on_ok (Ok x) A B a f = f a
on_ok (Err e) A B a f = tt

pub returns : goal.returns
returns c =
    on_ok c.put_size.result _ _ c.put_size.ensures (λ said. record { sectors = c.least_device.result; least = c.least_device.ensures; said = said })
