use Rattle.std.proofs.Common.{◌≡◌, ◌≤◌, ◌+◌, ◌-◌, ◌++◌, ◌∙◌, length, drop, refl, arith, length-take}
use Rattle.sg_disk.specs.Disk.{window}
use Rattle.sg_record.specs.Records.{spelled}
use Rattle.sg_log.proofs.Runs.{reads_one}
use Rattle.sg_log.proofs.Windows.{longer_texts, found_there, read_there, text_there}
use Rattle.std.proofs.lemmas.List.{length-take-le}
use Rattle.sg_log.proofs.reading.read_record.Goals as goal

pub read_at-requires : goal.read_at-requires
read_at-requires g c = omega (arith, length-take c.args.count c.args.into.now)

pub returns-in_err-read_at-clause-reads : goal.returns-in_err-read_at-clause-reads
returns-in_err-read_at-clause-reads g c = reads_one c.read_at.ensures.counts c.read_at.ensures.does c.read_at.ensures.unchanged

pub returns-clause-reads : goal.returns-clause-reads
returns-clause-reads g c = reads_one c.read_at.ensures.counts c.read_at.ensures.does c.read_at.ensures.unchanged

pub returns-clause-is_record : goal.returns-clause-is_record
returns-clause-is_record g c = longer_texts (c.read_at.new.into ++ drop c.args.count c.args.into.now) c.args.count c.size_of_first.result c.size_of_first.ensures.is_record

pub returns-clause-found : goal.returns-clause-found
returns-clause-found g c r told fields fits text =
    let f = ((g.D.Disk.view c.args.disk.now).now c.args.area).seen in
    let room : c.args.count ≤ length c.args.into.now = omega arith in
    let long : length c.read_at.new.into ≡ c.args.count = c.read_at.auto.into ∙ length-take-le c.args.count c.args.into.now room in
    let bytes = read_there {t = (g.D.Disk.view c.args.disk.now).now} c.args.area c.args.at c.args.count c.args.into.now (c.in_ok-read_at.ensures.bytes told) refl room in
    c.size_of_first.ensures.found r (window f (c.args.at + length (spelled r)) (c.args.count - length (spelled r))) fields
    (found_there f c.args.at c.args.count c.read_at.new.into (drop c.args.count c.args.into.now) r bytes long fits text)

pub returns-clause-text : goal.returns-clause-text
returns-clause-text g c r told fits text =
    let f = ((g.D.Disk.view c.args.disk.now).now c.args.area).seen in
    let room : c.args.count ≤ length c.args.into.now = omega arith in
    let long : length c.read_at.new.into ≡ c.args.count = c.read_at.auto.into ∙ length-take-le c.args.count c.args.into.now room in
    let bytes = read_there {t = (g.D.Disk.view c.args.disk.now).now} c.args.area c.args.at c.args.count c.args.into.now (c.in_ok-read_at.ensures.bytes told) refl room in
    text_there f c.args.at c.args.count c.read_at.new.into (drop c.args.count c.args.into.now) r bytes long fits text
