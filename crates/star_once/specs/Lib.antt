-- Keys and globals that occur only once in all that a run leaves. Begin at Keys.
pub mod Keys
pub mod Laws
pub mod Results
pub mod Names
