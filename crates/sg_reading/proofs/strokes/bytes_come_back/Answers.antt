use Rattle.sg_reading.proofs.Bytes as bytes
use Rattle.sg_reading.proofs.Bands as bands
use Rattle.sg_reading.proofs.strokes.bytes_come_back.Goals as goal

pub returns-clause-back : goal.returns-clause-back
returns-clause-back c = bytes.puts_back

pub returns-clause-band : goal.returns-clause-band
returns-clause-band c = bands.on_band
