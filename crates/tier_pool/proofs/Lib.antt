mod CopyLaws
pub mod RangeLaws
mod CallLaws
mod ClockLaws
pub mod NvmRoomLaws
pub mod FullRoomLaws
pub mod MiniRoomLaws
mod MiniLaws
pub mod BareLaws
pub mod LineLaws
pub mod BringingLaws
pub mod WritingLaws
pub mod FetchLaws
pub mod StoringLaws
pub mod RoomLaws
pub mod ThroughLaws
pub mod OpeningLaws
pub mod EnteringLaws
pub mod StandingLaws
pub mod HandingLaws
pub mod DownLaws
pub mod SteadyPieces
pub mod SteadyHolds
pub mod SteadySteps
pub mod SteadyRooms
pub mod SteadyLaws
pub mod SteadyOpening
