-- `sign_len` meets its contract.
use Rattle.number.proofs.Forms.{sign-bytes}
use Rattle.number.proofs.decimal.sign_len.Goals as goal

pub returns-in-43 : goal.returns-in-43
returns-in-43 c = search sign-bytes

pub returns-in_default : goal.returns-in_default
returns-in_default c = search sign-bytes

pub returns-in_default-2 : goal.returns-in_default-2
returns-in_default-2 c = search sign-bytes
