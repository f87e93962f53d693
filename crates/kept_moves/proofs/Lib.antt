mod FrameValues
