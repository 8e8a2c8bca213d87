-- What is put together is what is printed of the bytes, and an empty text has room for it.
use mathlib.Core.Path.{refl, sym, ap, ◌∙◌}
use Rattle.std.proofs.Common.{arith}
use Rattle.listset.proofs.Putting.{same_text, has-room}
use Rattle.listset.proofs.Lengths.{refused-short, set-short}
use Rattle.model.specs.Numbers.{refusal_number}
use Rattle.pool.specs.Layout.{held_by}
use Rattle.listset.specs.Text.{set_lines}
use Rattle.listset.proofs.Answering.{made-granted, too_long, short-enough, check-granted, check-told, done-told, refused-told}
use Rattle.listset.proofs.answer.Goals as goal

pub unwrap-requires : goal.unwrap-requires
unwrap-requires c = made-granted _ refl c.new.ensures

pub returns-then-bytes-gt-MOST : goal.returns-then-bytes-gt-MOST
returns-then-bytes-gt-MOST c = record {
  puts = same_text (sym (too_long c.args.bytes.now c.if-bytes-gt-MOST.true)) c.put.ensures;
  fits = has-room c.put.ensures (omega arith);
}

pub returns-in-Err : goal.returns-in-Err
returns-in-Err c =
    let told = refused-told c.args.bytes.now _ refl c.new.ensures _ c.load.ensures c.in-Err.is in record {
      puts = same_text (sym (short-enough c.args.bytes.now c.if-bytes-gt-MOST.false ∙ told)) c.put_refused.ensures;
      fits = has-room c.put_refused.ensures (omega (arith, refused-short (refusal_number c.in-Err.refusal)));
    }

pub unwrap-requires-in-Ok : goal.unwrap-requires-in-Ok
unwrap-requires-in-Ok c =
    let told = done-told c.args.bytes.now _ refl c.new.ensures _ c.load.ensures c.in-Ok.is in
    check-granted c.check.result told.0.sound c.check.ensures.err

pub returns-in-Ok : goal.returns-in-Ok
returns-in-Ok c =
    let told = done-told c.args.bytes.now _ refl c.new.ensures _ c.load.ensures c.in-Ok.is in
    let put = same_text (ap (λ w. set_lines (held_by w 0)) (check-told c.check.ensures.ok c.unwrap-in-Ok.ensures)) c.put_set.ensures in record {
      puts = same_text (sym (short-enough c.args.bytes.now c.if-bytes-gt-MOST.false ∙ told.2)) put;
      fits = has-room put (omega (arith, set-short told.0, told.1));
    }
