pub mod CarriedStreams
mod FrameRests
mod OddStreams
mod StreamMoments
mod TakenStreams
