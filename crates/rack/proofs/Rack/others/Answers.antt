use Rattle.rack.proofs.Loads.{all_but_this, less_than_all, loads_of}
use Rattle.rack.proofs.Rack.others.Goals as goal

pub overflow_sub-result : goal.overflow_sub-result
overflow_sub-result c =
    less_than_all c.args.self c.args.i c.load-2.result c.load.result c.requires (loads_of c.load-2.ensures c.slot-s.ensures) c.load.ensures

pub returns : goal.returns
returns c =
    rw (c.load-2.ensures, c.load.ensures, c.slot-s.ensures) (all_but_this c.args.self c.args.i c.requires)
