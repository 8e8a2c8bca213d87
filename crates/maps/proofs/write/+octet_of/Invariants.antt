-- `octet_of` meets its contract: the positions of the stretch have one value, and the cursor goes on to the first after it for the others. The
-- measure is how many positions are left. Assumes nothing.
use Rattle.maps.proofs.write.+octet_of.Given as goal

abbrev pub decreases-octet_of : goal.decreases-octet_of
decreases-octet_of l = l.k
