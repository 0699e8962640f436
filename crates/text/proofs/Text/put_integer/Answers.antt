-- The digits that std writes, and the byte.
use Rattle.text.proofs.Puts.{gains_then}
use Rattle.text.proofs.Text.put_integer.Goals as goal

pub returns : goal.returns
returns g c = gains_then (rw (c.as_bytes.ensures.value, c.format.ensures.text) at c.put.ensures) c.put_byte.ensures
