-- What the type of a head holds.
use Rattle.report.proofs.Validity.{coded_so}
use Rattle.sequences.specs.declared.told.Head.{Head}
use Rattle.sequences.specs.Leads.{lead}
use Rattle.sequences.specs.Parts.{Started}

pub started : (h : Head) → Started (lead h)
started h = (h.number_fits, coded_so h.shifted h.shifted_fits, coded_so h.base h.base_fits, h.sum_fits)
