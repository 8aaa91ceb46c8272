use Rattle.text.proofs.Texts.{text-short, text-long, text-scanned}
use Rattle.text.proofs.admit.is_text.Goals as goal

pub returns-then-buffer-used : goal.returns-then-buffer-used
returns-then-buffer-used c = let a = c.args in text-short a.buffer.now a.used c.if-buffer-used.true

pub returns-then-used-gt-TEXT_LIMIT : goal.returns-then-used-gt-TEXT_LIMIT
returns-then-used-gt-TEXT_LIMIT c = let a = c.args in text-long a.buffer.now a.used c.if-buffer-used.false c.if-used-gt-TEXT_LIMIT.true

pub returns : goal.returns
returns c = let a = c.args in text-scanned a.buffer.now a.used _ c.if-buffer-used.false c.if-used-gt-TEXT_LIMIT.false c.all_admissible.ensures
