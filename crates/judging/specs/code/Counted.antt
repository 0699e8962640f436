-- A content as the code has it: a body, and how many bytes of it are content.
use Rattle.std.specs.Prelude.{List, ℕ}
use Rattle.judging.specs.declared.content.Content.{Content}
use Rattle.judging.specs.code.Content.{content_by}

-- Its bytes.
abbrev pub content_of : Content → List ℕ
content_of c = content_by c.count c.body.now
