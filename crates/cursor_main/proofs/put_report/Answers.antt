use Rattle.text.proofs.Puts.{holds_emptied}
use Rattle.cursor_main.proofs.put_report.Goals as goal

pub returns : goal.returns
returns c = holds_emptied c.clear.ensures c.put_report.ensures
