use Rattle.std.proofs.Common.{◌≡◌, ◌+◌, ◌≤◌, ◌++◌, length, arith, length-append}
use Rattle.byteorder.specs.Endian.{little_bytes}
use Rattle.sg_base.proofs.Overwriting.{wrote_on}
use Rattle.sg_record.proofs.writer.put_op.Goals as goal

pub returns : goal.returns
returns c =
    let within : c.args.at ≤ length c.args.into.now = omega arith in
    let arg = c.args.c.now.arg.now in
    let tail = little_bytes 4 (length c.args.c.now.before.now) ++ c.args.c.now.before.now in
    let room : c.args.at + (20 + length (arg ++ tail)) ≤ length c.args.into.now = omega (arith, c.requires.room) in
    let long : length c.put_text-at.new.into ≡ length c.args.into.now = omega (arith, c.put_text-at.auto.into, c.put_u16-at-2.auto.into, c.put_u32-at-4.auto.into, c.put_u16-at.auto.into, c.put_u32-at-3.auto.into, c.put_u32-at-2.auto.into, c.put_u32-at.auto.into) in
    let place : c.put_text-at.result ≡ c.args.at + (20 + length arg) = omega (arith, c.put_text-at.ensures.place, c.put_u16-at-2.ensures.place, c.put_u32-at-4.ensures.place, c.put_u16-at.ensures.place, c.put_u32-at-3.ensures.place, c.put_u32-at-2.ensures.place, c.put_u32-at.ensures.place) in
    let behind : c.put_text-at.result ≤ length c.put_text-at.new.into = omega (arith, room, long, place, length-append arg tail) in
    wrote_on within
    (wrote_on within (wrote_on within (wrote_on within (wrote_on within (wrote_on within (wrote_on within
    c.put_u32-at.ensures c.put_u32-at-2.ensures) c.put_u32-at-3.ensures) c.put_u16-at.ensures) c.put_u32-at-4.ensures) c.put_u16-at-2.ensures) c.put_text-at.ensures)
    (wrote_on behind c.put_u32-at-5.ensures c.put_text.ensures)
