-- `server::lines::read_form` meets its contract: each test of the form is made. Assumes nothing.
use mathlib.Core.Path.{sym}
use native.Mathlib.Omega.{arith}
use Rattle.hexadecimal.proofs.Decodes.{decodes}
use Rattle.server.proofs.LineLaws.{form-long, form-short, form-blank, form-number, rest-long, form_digits, form-good, no_bytes, bytes_in}
use Rattle.server.proofs.lines.read_form.Goals as goal
use Rattle.server.proofs.lines.read_form.Goals.{then-line-gt-LONGEST-via-then-line-gt-LONGEST, then-line-gt-LONGEST-via-else-line-gt-LONGEST+then-line-lt9, then-line-gt-LONGEST-via-else-line-gt-LONGEST+else-line-lt9+then-line-ne32}

pub returns-then-line-gt-LONGEST : goal.returns-then-line-gt-LONGEST
returns-then-line-gt-LONGEST c =
    record {
      form = elim c.then-line-gt-LONGEST.branch [
        | then-line-gt-LONGEST-via-then-line-gt-LONGEST w ↦ form-long _ w.if-line-gt-LONGEST.true
        | then-line-gt-LONGEST-via-else-line-gt-LONGEST+then-line-lt9 w ↦ form-short _ w.if-line-lt9.true
        | then-line-gt-LONGEST-via-else-line-gt-LONGEST+else-line-lt9+then-line-ne32 w ↦ form-blank _ w.if-line-ne32.true
      ];
      within = tt;
    }

pub returns-in_err-second : goal.returns-in_err-second
returns-in_err-second c = rw c.from_residual.ensures (record { form = form-number _ (sym (rw c.in_err-second.was at c.number.ensures)); within = tt })

pub returns-in_err-n : goal.returns-in_err-n
returns-in_err-n c =
    rw c.from_residual-in_err-n.ensures
    (record {
      form = form_digits _ (no_bytes _ _ _ _ (omega (arith, rest-long c.args.line.now, c.if-line-gt-LONGEST.false, c.requires)) (decodes _ _ _ _ c.decode.ensures) (sym (rw c.in_err-n.was at c.ok.ensures.value)));
      within = tt;
    })

pub returns : goal.returns
returns c =
    let y = bytes_in _ _ _ _ _ (decodes _ _ _ _ c.decode.ensures) (sym (rw c.in_ok-n.was at c.ok.ensures.value)) in
    record {
      form = form-good _ c.if-line-gt-LONGEST.false c.if-line-ne32.false (sym (rw c.in_ok-second.was at c.number.ensures)) y.0;
      within = (y.1, omega arith);
    }
