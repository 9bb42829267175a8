use Rattle.sg_objects.proofs.Freeing.{array_frees, table_frees, blob_frees}
use Rattle.sg_objects.proofs.Counting.{went, counts_ok, counts_handed}
use Rattle.sg_objects.proofs.free.free_body.Goals as goal

pub returns-in_ok-free_all-in-Array-clause-did : goal.returns-in_ok-free_all-in-Array-clause-did
returns-in_ok-free_all-in-Array-clause-did g c = array_frees c.in-Array.is c.in_ok-free_all-in-Array.ensures.did

pub returns-in_ok-free_all-in-Table-clause-did : goal.returns-in_ok-free_all-in-Table-clause-did
returns-in_ok-free_all-in-Table-clause-did g c = table_frees c.in-Table.is c.in_ok-free_all-in-Table.ensures.did

pub returns-in_ok-free_all-in-Blob-clause-did : goal.returns-in_ok-free_all-in-Blob-clause-did
returns-in_ok-free_all-in-Blob-clause-did g c = blob_frees c.in-Blob.is c.in_ok-free_all-in-Blob.ensures.did

-- each call says the rest of it
pub returns-in_err-free_all-in-Array-clause-counts : goal.returns-in_err-free_all-in-Array-clause-counts
returns-in_err-free_all-in-Array-clause-counts g c =
    counts_handed c.from_residual.result _ c.from_residual.ensures.1 (c.in_err-free_all-in-Array.ensures.counts)

pub returns-in_ok-free_all-in-Array-clause-counts : goal.returns-in_ok-free_all-in-Array-clause-counts
returns-in_ok-free_all-in-Array-clause-counts g c = counts_ok _ (went c.in_ok-free_all-in-Array.ensures.counts)

pub returns-in_err-free_all-in-Array-clause-later : goal.returns-in_err-free_all-in-Array-clause-later
returns-in_err-free_all-in-Array-clause-later g c = c.free_all.ensures.later

pub returns-in_err-free_all-in-Array-clause-means : goal.returns-in_err-free_all-in-Array-clause-means
returns-in_err-free_all-in-Array-clause-means g c = c.free_all.ensures.means

pub returns-in_ok-free_all-in-Array-clause-later : goal.returns-in_ok-free_all-in-Array-clause-later
returns-in_ok-free_all-in-Array-clause-later g c = c.free_all.ensures.later

pub returns-in_ok-free_all-in-Array-clause-means : goal.returns-in_ok-free_all-in-Array-clause-means
returns-in_ok-free_all-in-Array-clause-means g c = c.free_all.ensures.means

pub returns-in_err-free_all-in-Table-clause-counts : goal.returns-in_err-free_all-in-Table-clause-counts
returns-in_err-free_all-in-Table-clause-counts g c =
    counts_handed c.from_residual-in_err-free_all-in-Table.result _ c.from_residual-in_err-free_all-in-Table.ensures.1 (c.in_err-free_all-in-Table.ensures.counts)

pub returns-in_ok-free_all-in-Table-clause-counts : goal.returns-in_ok-free_all-in-Table-clause-counts
returns-in_ok-free_all-in-Table-clause-counts g c = counts_ok _ (went c.in_ok-free_all-in-Table.ensures.counts)

pub returns-in_err-free_all-in-Table-clause-later : goal.returns-in_err-free_all-in-Table-clause-later
returns-in_err-free_all-in-Table-clause-later g c = c.free_all-in-Table.ensures.later

pub returns-in_err-free_all-in-Table-clause-means : goal.returns-in_err-free_all-in-Table-clause-means
returns-in_err-free_all-in-Table-clause-means g c = c.free_all-in-Table.ensures.means

pub returns-in_ok-free_all-in-Table-clause-later : goal.returns-in_ok-free_all-in-Table-clause-later
returns-in_ok-free_all-in-Table-clause-later g c = c.free_all-in-Table.ensures.later

pub returns-in_ok-free_all-in-Table-clause-means : goal.returns-in_ok-free_all-in-Table-clause-means
returns-in_ok-free_all-in-Table-clause-means g c = c.free_all-in-Table.ensures.means

pub returns-in_err-free_all-in-Blob-clause-counts : goal.returns-in_err-free_all-in-Blob-clause-counts
returns-in_err-free_all-in-Blob-clause-counts g c =
    counts_handed c.from_residual-in_err-free_all-in-Blob.result _ c.from_residual-in_err-free_all-in-Blob.ensures.1 (c.in_err-free_all-in-Blob.ensures.counts)

pub returns-in_ok-free_all-in-Blob-clause-counts : goal.returns-in_ok-free_all-in-Blob-clause-counts
returns-in_ok-free_all-in-Blob-clause-counts g c = counts_ok _ (went c.in_ok-free_all-in-Blob.ensures.counts)

pub returns-in_err-free_all-in-Blob-clause-later : goal.returns-in_err-free_all-in-Blob-clause-later
returns-in_err-free_all-in-Blob-clause-later g c = c.free_all-in-Blob.ensures.later

pub returns-in_err-free_all-in-Blob-clause-means : goal.returns-in_err-free_all-in-Blob-clause-means
returns-in_err-free_all-in-Blob-clause-means g c = c.free_all-in-Blob.ensures.means

pub returns-in_ok-free_all-in-Blob-clause-later : goal.returns-in_ok-free_all-in-Blob-clause-later
returns-in_ok-free_all-in-Blob-clause-later g c = c.free_all-in-Blob.ensures.later

pub returns-in_ok-free_all-in-Blob-clause-means : goal.returns-in_ok-free_all-in-Blob-clause-means
returns-in_ok-free_all-in-Blob-clause-means g c = c.free_all-in-Blob.ensures.means
