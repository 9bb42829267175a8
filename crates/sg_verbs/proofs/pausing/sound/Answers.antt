use Rattle.sg_verbs.proofs.pausing.sound.Goals as goal

pub returns : goal.returns
returns g c =
    let e = g.met.E.Engine in
    record {
      whole = e.told_whole _;
      full = e.full_failed _;
      unfailed = e.unfailed _;
      unbroken = c.args.acts.now.unbroken;
      durable = e.durable_first _;
      law = λ t from m. e.lawful _ t from m;
      now = λ t from m told. e.now_is _ t from m told;
      images = λ t from m told. e.images _ t from m told;
    }
