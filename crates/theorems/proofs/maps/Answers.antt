use Rattle.theorems.proofs.Theorems.{cleared-reads, cleared-once, written-stays, forms-agree, fill-none, fill-full}
use Rattle.theorems.proofs.maps.Goals as goal

pub returns : goal.returns
returns c = record {
  cleared_reads = cleared-reads;
  cleared_once = cleared-once;
  written_stays = written-stays;
  forms_agree = forms-agree;
  fill_none = fill-none;
  fill_full = fill-full;
}
