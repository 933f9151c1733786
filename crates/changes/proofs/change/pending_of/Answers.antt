-- The record, field by field.
use Rattle.changes.specs.Pending.{pending_of}
use Rattle.changes.proofs.change.pending_of.Goals as goal

pub returns : goal.returns
unfolding pending_of
returns c =
    let criticality = c.args.new.criticality in
    λ i. record {
      left = c.args.lead;
      p = c.counting_limits-p.ensures.0 i;
      r = c.counting_limits-p.ensures.1 i;
      criticality = criticality;
    }
