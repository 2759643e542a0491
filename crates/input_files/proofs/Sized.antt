-- What is read for the largest device, of a file by which a device has its size.
use Rattle.std.proofs.Common.{ℕ, ◌≡◌, ◌+◌, ◌*◌, ◌≤◌, min, List, length, take, arith}
use Rattle.std.proofs.lemmas.List.{take_all}
use Rattle.base.specs.Sizes.{sector_limit}
use Rattle.base.specs.declared.limits.Limits.{Limits}
use Rattle.input_files.specs.Kinds.{base_read}
use Rattle.input_files.specs.Sized.{BaseIsReadAlike}

pub alike : BaseIsReadAlike
alike limits sectors bytes whole few =
    let most : min (sector_limit limits) (sector_limit limits) ≡ sector_limit limits = omega arith in
    let size : min sectors (sector_limit limits) ≡ sectors = omega (arith, few) in
    (take_all (base_read (sector_limit limits) limits) bytes (omega (arith, whole, few, most)), take_all (base_read sectors limits) bytes (omega (arith, whole, few, size)))
