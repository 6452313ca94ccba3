-- `server::lines::line_sound` meets its contract: the form of the line, then its bytes. Assumes nothing.
use Rattle.server.proofs.LineLaws.{gives_as, gives_same, line-asks}
use Rattle.server.proofs.lines.line_sound.Goals as goal

pub returns-in-Some : goal.returns-in-Some
returns-in-Some c = gives_as (line-asks _ _ (rw c.in-Some.is at c.read_form.ensures.form)) c.serve_frame.ensures

pub returns-in-None : goal.returns-in-None
returns-in-None c = gives_same (line-asks _ _ (rw c.in-None.is at c.read_form.ensures.form)) c.put_text.ensures
